use Rattle.extension.proofs.Marks.{Telling}
use Rattle.extension.proofs.Marks.{Counting}
use Rattle.extension.proofs.mark_all_members.Given as goal

abbrev pub invariant-loop-i : goal.invariant-loop-i
invariant-loop-i l = Counting (Telling l.p l.m l.k l.initial.work l.work) l.i-end l.i
