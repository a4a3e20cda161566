-- `list_pairs`: at record k the list has what the records before it state.
use Rattle.meaning.specs.Records.{falling, last_of}
use Rattle.pairs.proofs.Pairs.{Listing}
use Rattle.pairs.proofs.list_pairs.Given as goal

abbrev pub invariant-loop-k : goal.invariant-loop-k
invariant-loop-k l = Listing l.v l.initial.work l.k l.work

abbrev pub decreases-loop-k : goal.decreases-loop-k
decreases-loop-k l = falling (last_of 4 l.v) l.k
