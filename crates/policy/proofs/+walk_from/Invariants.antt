-- `walk_from`: a loop along the chain, over its records, and a call for each child chain, with a level less.
use mathlib.Core.Path.{◌≡◌}
use lib.ListN.{length}
use Rattle.meaning.specs.Records.{falling, last_of}
use Rattle.policy.proofs.Walking.{Going}
use Rattle.policy.proofs.+walk_from.Given as goal

abbrev pub decreases-walk_from : goal.decreases-walk_from
decreases-walk_from l = l.left

abbrev pub invariant-loop-k : goal.invariant-loop-k
invariant-loop-k l = Going l.v l.p l.left l.first l.initial.seen l.k l.seen × (length l.seen ≡ length l.initial.seen)

abbrev pub decreases-loop-k : goal.decreases-loop-k
decreases-loop-k l = falling (last_of 6 l.p) l.k
