use Rattle.writing.proofs.Counting.{Counting}
use Rattle.writing.proofs.count_records.Given as goal

abbrev pub invariant-loop-e : goal.invariant-loop-e
invariant-loop-e l = Counting l.work l.order l.e-index l.n
