use lib.ListN.{length}
use mathlib.Core.Path.{◌∙◌, ap, refl}
use native.Mathlib.Omega.{arith}
use Rattle.closure.proofs.Steps.{grown_more, grown_still, lifted_length}
use Rattle.meaning.specs.Vocabulary.{axiom_at}
use Rattle.vocabulary.proofs.Chain.{folding_ends, folding_falls, folding_on, folding_starts}
use Rattle.vocabulary.proofs.Chain.{folding_fits}
use Rattle.theory.proofs.Wellformed.{axiom_named}
use Rattle.closure.proofs.pass.Goals as goal
use Rattle.closure.proofs.pass.Goals.{else-lift, then-lift}

pub loop-k-init : goal.loop-k-init
loop-k-init c = (refl, folding_starts c.requires.0 c.first_axiom-k.ensures, refl)

pub lift-requires : goal.lift-requires
lift-requires c = let l = c.loop-k in (folding_fits l.invariant.1 c.loop-k-test.true, omega (arith, l.invariant.0, c.requires.1))

pub loop-k-smaller : goal.loop-k-smaller
loop-k-smaller c = folding_falls c.loop-k.invariant.1 c.loop-k-test.true c.axiom_next-k.ensures

pub loop-k-preserved : goal.loop-k-preserved
loop-k-preserved c =
    let l = c.loop-k in
    let v = c.args.v.now in
    let n = c.loop-k-test.true in
    let e = c.lift.ensures in
    let u = c.lift.new.work in
    let w₀ = c.args.work.now in (
      ap length e.work_after ∙ lifted_length v l.work (axiom_at v l.k) (axiom_named v l.k (folding_fits l.invariant.1 n)) (omega (arith, l.invariant.0, c.requires.1)) ∙ l.invariant.0,
      folding_on l.invariant.1 n c.axiom_next-k.ensures e.work_after,
      elim c.if-lift.branch [
        | then-lift x ↦ grown_more l.grown c.lift.result w₀ l.work u l.invariant.2 e.grown x.if-lift.true x.grown-is
        | else-lift x ↦ grown_still l.grown c.lift.result w₀ l.work u l.invariant.2 e.grown x.if-lift.false x.grown-is
      ],
    )

pub shape_of-work : goal.shape_of-work
shape_of-work c = c.loop-k.invariant.0

pub returns : goal.returns
returns c = let l = c.loop-k in record { work_after = folding_ends l.invariant.1 c.loop-k-test.false; grown = l.invariant.2 }
