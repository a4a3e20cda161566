-- `intervals_at` and `intervals_from`: a loop along the chain, over its records, and a call for each child chain, with a level less.
use Prim.Native.Nat.{◌*◌, ◌+◌}
use Rattle.meaning.specs.Records.{falling, last_of}
use Rattle.policy.proofs.Conjuncts.{Going}
use Rattle.splitting.proofs.Tallying.{Uncounted}
use Rattle.splitting.proofs.+intervals_at_intervals_from.Given as goal

abbrev pub decreases-intervals_at : goal.decreases-intervals_at
decreases-intervals_at l = 2 * l.left

abbrev pub decreases-intervals_from : goal.decreases-intervals_from
decreases-intervals_from l = 2 * l.left + 1

abbrev pub invariant-intervals_from-loop-k : goal.invariant-intervals_from-loop-k
invariant-intervals_from-loop-k l = Going (Uncounted l.p l.left l.first l.n) l.p l.k

abbrev pub decreases-intervals_from-loop-k : goal.decreases-intervals_from-loop-k
decreases-intervals_from-loop-k l = falling (last_of 6 l.p) l.k
