use native.Mathlib.Omega.{arith}
use Rattle.owl.proofs.Output.{name_length, names_more, names_start}
use Rattle.records.proofs.Writing.{left_end, left_start, turn_less, turn_more, turn_room}
use Rattle.words.proofs.Listing.{from_end, from_more}
use Rattle.owl.proofs.write_names.Goals as goal

pub next-x-requires : goal.next-x-requires
next-x-requires c = c.requires.0

pub loop-x-init : goal.loop-x-init
loop-x-init c = left_start _ _ _ _ _ (names_start _ c.next-x.ensures)

pub put-requires : goal.put-requires
put-requires c = turn_room c.loop-x.invariant c.requires.1 _ _ (from_more _ _ c.loop-x-test.true)

pub overflow_add-at : goal.overflow_add-at
overflow_add-at c = let l = c.loop-x in
    let r = turn_room l.invariant c.requires.1 _ _ (from_more _ _ c.loop-x-test.true) in
    omega (arith, r.0, r.1.few)

pub next-x-requires-in-loop-x : goal.next-x-requires-in-loop-x
next-x-requires-in-loop-x c = c.requires.0

pub loop-x-smaller : goal.loop-x-smaller
loop-x-smaller c = turn_less c.loop-x.invariant c.requires.1 _ _ (names_more _ c.loop-x-test.true c.next-x-in-loop-x.ensures)

pub loop-x-preserved : goal.loop-x-preserved
loop-x-preserved c = turn_more c.loop-x.invariant c.requires.1 _ _
    (names_more _ c.loop-x-test.true c.next-x-in-loop-x.ensures) (name_length c.args.kind) _ c.put.ensures

pub shape_of-out : goal.shape_of-out
shape_of-out c = c.loop-x.invariant.long

pub returns : goal.returns
returns c = left_end _ c.loop-x.invariant (from_end _ _ c.loop-x-test.false)
