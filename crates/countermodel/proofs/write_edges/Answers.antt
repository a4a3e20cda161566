use mathlib.Core.Path.{refl}
use native.Mathlib.Omega.{arith}
use Rattle.countermodel.proofs.Edges.{edges_end, edges_more, edges_start}
use Rattle.records.proofs.Writing.{left_end, left_start, turn_less, turn_more, turn_room}
use Rattle.theory.proofs.ModelWords.{fact_length}
use Rattle.countermodel.proofs.write_edges.Goals as goal

pub loop-j-init : goal.loop-j-init
loop-j-init c =
    left_start _ _ _ _ _ (edges_start c.args.work.now c.args.x c.args.n _ _ c.place.ensures c.requires.0 c.next_successor-j.ensures)

pub put-requires : goal.put-requires
put-requires c =
    let l = c.loop-j in
    turn_room l.invariant c.requires.2 _ _ (edges_more c.args.work.now c.args.x c.args.n l.j _ c.loop-j-test.true refl)

pub overflow_add-at : goal.overflow_add-at
overflow_add-at c = omega arith

pub loop-j-smaller : goal.loop-j-smaller
loop-j-smaller c =
    let l = c.loop-j in
    turn_less l.invariant c.requires.2 _ _
    (edges_more c.args.work.now c.args.x c.args.n l.j _ c.loop-j-test.true c.next_successor-j-in-loop-j.ensures)

pub loop-j-preserved : goal.loop-j-preserved
loop-j-preserved c =
    let l = c.loop-j in
    turn_more l.invariant c.requires.2 _ _
    (edges_more c.args.work.now c.args.x c.args.n l.j _ c.loop-j-test.true c.next_successor-j-in-loop-j.ensures)
    fact_length _ (rw c.role_of-r.ensures at c.put.ensures)

pub shape_of-out : goal.shape_of-out
shape_of-out c = c.loop-j.invariant.long

pub returns : goal.returns
returns c =
    let a = c.args in
    let l = c.loop-j in
    left_end _ l.invariant (edges_end a.work.now a.x a.n l.j c.loop-j-test.false)
