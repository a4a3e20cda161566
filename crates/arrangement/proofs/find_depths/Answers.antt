use borrow.Author.Rules.{rules}
use Prim.Native.Nat.{◌+◌}
use mathlib.Core.Path.{◌∙◌, ap, refl}
use lib.ListN.{length-set}
use native.Mathlib.Omega.{arith}
use Rattle.arrangement.proofs.Deepening.{deepened_ends, deepened_more, deepened_starts, depth_low, depth_read}
use Rattle.arrangement.proofs.find_depths.Goals as goal

pub bounds-depths-0 : goal.bounds-depths-0
bounds-depths-0 c = let r = c.requires.room in omega arith

pub loop-i-init : goal.loop-i-init
loop-i-init c = (refl, deepened_starts c.requires)

pub parent_of-parent-requires : goal.parent_of-parent-requires
parent_of-parent-requires c = let r = c.requires.rows in (omega (arith, c.place.ensures, r.0), r.1)

pub overflow_add-depths : goal.overflow_add-depths
overflow_add-depths c =
    let l = c.loop-i in
    let d = depth_read c.args.work.now l.depths c.place.ensures c.parent_of-parent.ensures c.place-in-loop-i.ensures c.word.ensures in
    let low = depth_low c.requires l.invariant.1 c.loop-i-test.true d in
    let few = c.requires.rows.0 in
    search rules

pub bounds-depths-place : goal.bounds-depths-place
bounds-depths-place c = let r = c.loop-i.invariant.1.room in omega (arith, c.place-in-loop-i-2.ensures)

pub loop-i-preserved : goal.loop-i-preserved
loop-i-preserved c =
    let l = c.loop-i in
    let d = depth_read c.args.work.now l.depths c.place.ensures c.parent_of-parent.ensures c.place-in-loop-i.ensures c.word.ensures in
    (length-set l.depths _ _ ∙ l.invariant.0, deepened_more c.requires l.invariant.1 c.loop-i-test.true d (ap (λ n. n + 1) c.place-in-loop-i-2.ensures))

pub shape_of-depths : goal.shape_of-depths
shape_of-depths c = c.loop-i.invariant.0 ∙ length-set c.args.depths.now 0 0

pub returns : goal.returns
returns c = deepened_ends c.requires c.loop-i.invariant.1 c.loop-i-test.false
