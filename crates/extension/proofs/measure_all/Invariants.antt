use Rattle.extension.proofs.Heights.{Measuring}
use Rattle.extension.proofs.measure_all.Given as goal

abbrev pub invariant-loop-k : goal.invariant-loop-k
invariant-loop-k l = Measuring l.p l.initial.work l.work l.top l.k
