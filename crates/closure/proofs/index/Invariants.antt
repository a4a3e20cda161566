use Rattle.closure.proofs.Raising.{Indexing}
use Rattle.meaning.specs.Records.{falling, last_of}
use Rattle.closure.proofs.index.Given as goal

abbrev pub invariant-loop-k : goal.invariant-loop-k
invariant-loop-k l = Indexing l.v l.heads l.next l.k

abbrev pub decreases-loop-k : goal.decreases-loop-k
decreases-loop-k l = falling (last_of 4 l.v) l.k
