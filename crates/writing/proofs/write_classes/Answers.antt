use native.Mathlib.Omega.{arith}
use Rattle.writing.proofs.Words.{classes_end_lem, classes_less, classes_more, classes_room, classes_start}
use Rattle.writing.proofs.write_classes.Goals as goal

pub loop-c-init : goal.loop-c-init
loop-c-init c = classes_start _ _ _ _ c.next-c.ensures

pub overflow_add-k : goal.overflow_add-k
overflow_add-k c = omega (arith, c.loop-c.invariant.count, c.requires.few)

pub put-requires : goal.put-requires
put-requires c = classes_room c.loop-c.invariant c.requires c.loop-c-test.true c.next-next.ensures

pub loop-c-smaller : goal.loop-c-smaller
loop-c-smaller c = classes_less c.loop-c.invariant c.requires c.loop-c-test.true c.next-next.ensures

pub loop-c-preserved : goal.loop-c-preserved
loop-c-preserved c = classes_more c.loop-c.invariant c.requires c.loop-c-test.true c.next-next.ensures c.where_any.ensures c.put.ensures

pub shape_of-out : goal.shape_of-out
shape_of-out c = c.loop-c.invariant.long

pub returns : goal.returns
returns c = classes_end_lem c.loop-c.invariant c.requires c.loop-c-test.false
