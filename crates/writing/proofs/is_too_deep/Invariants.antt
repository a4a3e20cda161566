use Rattle.writing.proofs.Counting.{Passing}
use Rattle.writing.proofs.is_too_deep.Given as goal

abbrev pub invariant-loop-e : goal.invariant-loop-e
invariant-loop-e l = Passing l.work l.depths l.order l.e-index
