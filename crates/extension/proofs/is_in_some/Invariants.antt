use Rattle.extension.proofs.Policies.{Seeking}
use Rattle.meaning.specs.Records.{falling, last_of}
use Rattle.extension.proofs.is_in_some.Given as goal

abbrev pub invariant-loop-k : goal.invariant-loop-k
invariant-loop-k l = Seeking l.p l.m l.k

abbrev pub decreases-loop-k : goal.decreases-loop-k
decreases-loop-k l = falling (last_of 6 l.p) l.k
