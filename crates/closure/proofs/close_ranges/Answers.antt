use lib.ListN.{length}
use mathlib.Core.Path.{◌∙◌, ap, refl}
use native.Mathlib.Omega.{arith}
use Rattle.closure.proofs.Ranges.{ranged_all}
use Rattle.closure.proofs.Steps.{empties, empties_length, widened_length}
use Rattle.meaning.specs.Vocabulary.{axiom_at}
use Rattle.vocabulary.proofs.Chain.{folding_ends, folding_falls, folding_on, folding_starts}
use Rattle.vocabulary.proofs.Chain.{folding_fits}
use Rattle.theory.proofs.Wellformed.{accepted_counts, axiom_named}
use Rattle.closure.proofs.close_ranges.Goals as goal

pub empty_ranges-requires : goal.empty_ranges-requires
empty_ranges-requires c =
    let n = accepted_counts c.args.v.now c.requires.v_value in
    (omega (arith, n.1), omega (arith, c.requires.closed_rows.1))

pub loop-k-init : goal.loop-k-init
loop-k-init c = (refl, folding_starts c.requires.v_value c.first_axiom-k.ensures)

pub widen-requires : goal.widen-requires
widen-requires c =
    let l = c.loop-k in
    let n = accepted_counts c.args.v.now c.requires.v_value in
    let size = empties_length c.args.v.now _ _ c.requires.closed_rows.1 c.role_count.ensures c.empty_ranges.ensures in
    (folding_fits l.invariant.1 c.loop-k-test.true, (n.1, n.0.1, omega (arith, l.invariant.0, c.requires.closed_rows.1)))

pub loop-k-smaller : goal.loop-k-smaller
loop-k-smaller c = folding_falls c.loop-k.invariant.1 c.loop-k-test.true c.axiom_next-k.ensures

pub loop-k-preserved : goal.loop-k-preserved
loop-k-preserved c =
    let l = c.loop-k in
    let v = c.args.v.now in
    let w = c.widen.ensures in
    let taken = c.loop-k-test.true in
    let size = empties_length v _ _ c.requires.closed_rows.1 c.role_count.ensures c.empty_ranges.ensures in
    let named = axiom_named v l.k (folding_fits l.invariant.1 taken) in
    let most = (accepted_counts v c.requires.v_value).0.1 in
    let room = widened_length v l.work (axiom_at v l.k) named most (omega (arith, l.invariant.0, c.requires.closed_rows.1)) in
    (ap length w ∙ room ∙ l.invariant.0, folding_on l.invariant.1 taken c.axiom_next-k.ensures w)

pub shape_of-work : goal.shape_of-work
shape_of-work c =
    c.loop-k.invariant.0 ∙ empties_length c.args.v.now _ _ c.requires.closed_rows.1 c.role_count.ensures c.empty_ranges.ensures

pub returns : goal.returns
returns c =
    let v = c.args.v.now in
    let first = empties v _ _ c.requires.closed_rows.1 c.role_count.ensures c.empty_ranges.ensures in
    ranged_all v _ c.requires.v_value c.requires.closed_rows.0 c.requires.closed_rows.1 first (folding_ends c.loop-k.invariant.1 c.loop-k-test.false)
