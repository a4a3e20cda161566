use Rattle.closure.specs.Index.{Heads, Raised, records}
use Rattle.closure.proofs.raise_all.Given as goal

abbrev pub invariant-loop-c : goal.invariant-loop-c
invariant-loop-c l = Raised l.v l.initial.work l.work × Heads l.v l.heads records
