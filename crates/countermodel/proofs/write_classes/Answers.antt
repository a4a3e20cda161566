use mathlib.Core.Path.{refl}
use native.Mathlib.Omega.{arith}
use Rattle.countermodel.proofs.Members.{members_end, members_more, members_start}
use Rattle.records.proofs.Writing.{left_end, left_start, turn_less, turn_more, turn_room}
use Rattle.theory.proofs.ModelWords.{fact_length}
use Rattle.countermodel.proofs.write_classes.Goals as goal

pub loop-c-init : goal.loop-c-init
loop-c-init c =
    let a = c.args in
    left_start _ _ _ _ _ (members_start a.work.now a.i c.place.ensures c.classes_of-classes.ensures 0 _ refl c.next-c.ensures)

pub put-requires : goal.put-requires
put-requires c =
    let l = c.loop-c in
    turn_room l.invariant c.requires.1 _ _
    (members_more c.args.work.now c.args.i c.place.ensures c.classes_of-classes.ensures l.c.0 _ c.loop-c-test.true refl)

pub overflow_add-at : goal.overflow_add-at
overflow_add-at c = omega arith

pub loop-c-smaller : goal.loop-c-smaller
loop-c-smaller c =
    let l = c.loop-c in
    turn_less l.invariant c.requires.1 _ _
    (members_more c.args.work.now c.args.i c.place.ensures c.classes_of-classes.ensures l.c.0 _ c.loop-c-test.true c.next-c-in-loop-c.ensures)

pub loop-c-preserved : goal.loop-c-preserved
loop-c-preserved c =
    let l = c.loop-c in
    turn_more l.invariant c.requires.1 _ _
    (members_more c.args.work.now c.args.i c.place.ensures c.classes_of-classes.ensures l.c.0 _ c.loop-c-test.true c.next-c-in-loop-c.ensures)
    fact_length _ c.put.ensures

pub shape_of-out : goal.shape_of-out
shape_of-out c = c.loop-c.invariant.long

pub returns : goal.returns
returns c =
    let a = c.args in
    let l = c.loop-c in
    left_end _ l.invariant (members_end a.work.now a.i l.c.0 c.loop-c-test.false)
