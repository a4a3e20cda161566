use Rattle.writing.proofs.Whole.{Writing}
use Rattle.writing.proofs.write.Given as goal

abbrev pub invariant-loop-i : goal.invariant-loop-i
invariant-loop-i l = Writing l.work l.depths l.order l.initial.out l.i l.k l.out
