-- `put_axioms`: at class k its records up to there are put, and the others are left.
use Rattle.rehearsal.proofs.Axioms.{AxiomsLeft}
use Rattle.rehearsal.proofs.put_axioms.Given as goal

abbrev pub invariant-loop-k : goal.invariant-loop-k
invariant-loop-k l = AxiomsLeft l.initial.out l.n l.initial.cursor.at l.initial.cursor.seed l.out l.cursor.at l.cursor.seed l.k
