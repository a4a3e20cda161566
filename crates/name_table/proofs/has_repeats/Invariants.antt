use Rattle.name_table.proofs.Laws.{Repeating}
use Rattle.name_table.proofs.has_repeats.Given as goal

abbrev pub invariant-loop-k : goal.invariant-loop-k
invariant-loop-k l = Repeating l.text l.table l.base l.n l.k
