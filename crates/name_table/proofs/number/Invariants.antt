use Rattle.name_table.proofs.Laws.{Looking}
use Rattle.name_table.proofs.number.Given as goal

abbrev pub invariant-loop-k : goal.invariant-loop-k
invariant-loop-k l = Looking l.text l.table l.base l.n l.name l.k
