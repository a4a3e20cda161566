-- `collect`: what is added and what is left to add are the keys of the policy.
use Rattle.meaning.specs.Records.{falling, last_of}
use Rattle.splitting.proofs.Policies.{Collecting}
use Rattle.splitting.proofs.collect.Given as goal

abbrev pub invariant-loop-k : goal.invariant-loop-k
invariant-loop-k l = Collecting l.q l.initial.ends l.ends l.n l.k

abbrev pub decreases-loop-k : goal.decreases-loop-k
decreases-loop-k l = falling (last_of 6 l.q) l.k
