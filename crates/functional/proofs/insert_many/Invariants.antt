use Rattle.meaning.specs.Records.{falling, last_of}
use Rattle.vocabulary.proofs.Chain.{Folding}
use Rattle.vocabulary.proofs.Names.{with_name}
use Rattle.functional.proofs.insert_many.Given as goal

abbrev pub invariant-loop-k : goal.invariant-loop-k
invariant-loop-k l = Folding l.v (with_name 6) l.initial.roles l.k l.roles × Folding l.v (with_name 7) l.initial.features l.k l.features

abbrev pub decreases-loop-k : goal.decreases-loop-k
decreases-loop-k l = falling (last_of 4 l.v) l.k
