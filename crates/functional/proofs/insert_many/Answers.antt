use Rattle.vocabulary.proofs.Chain.{folding_ends, folding_falls, folding_fits, folding_on, folding_starts}
use Rattle.vocabulary.proofs.Names.{name_step, names_noted, noted_length}
use Rattle.functional.proofs.insert_many.Goals as goal

pub loop-k-init : goal.loop-k-init
loop-k-init c = let h = c.requires in (folding_starts h c.first_axiom-k.ensures, folding_starts h c.first_axiom-k.ensures)

pub loop-k-smaller : goal.loop-k-smaller
loop-k-smaller c = folding_falls c.loop-k.invariant.0 c.loop-k-test.true c.axiom_next-k.ensures

pub loop-k-preserved : goal.loop-k-preserved
loop-k-preserved c =
    let v = c.args.v.now in
    let l = c.loop-k in
    let n = c.loop-k-test.true in
    let f = folding_fits l.invariant.0 n in
    let e = c.axiom_next-k.ensures in (
      folding_on l.invariant.0 n e (name_step v 6 l.k l.roles f c.note.ensures.roles),
      folding_on l.invariant.1 n e (name_step v 7 l.k l.features f c.note.ensures.features),
    )

pub returns : goal.returns
returns c =
    let a = c.args in
    let z = c.loop-k-test.false in
    record { roles = names_noted a.v.now 6 a.roles.now (folding_ends c.loop-k.invariant.0 z); features = names_noted a.v.now 7 a.features.now (folding_ends c.loop-k.invariant.1 z) }

pub shape_of-roles : goal.shape_of-roles
shape_of-roles c = let a = c.args in noted_length a.v.now 6 a.roles.now (returns c).roles

pub shape_of-features : goal.shape_of-features
shape_of-features c = let a = c.args in noted_length a.v.now 7 a.features.now (returns c).features
