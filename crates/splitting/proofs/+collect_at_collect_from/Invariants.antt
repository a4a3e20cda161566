-- `collect_at` and `collect_from`: a loop along the chain, over its records, and a call for each child chain, with a level less.
use Prim.Native.Nat.{◌*◌, ◌+◌}
use mathlib.Core.Path.{◌≡◌}
use lib.ListN.{length}
use Rattle.meaning.specs.Records.{falling, last_of}
use Rattle.policy.proofs.Conjuncts.{Going}
use Rattle.splitting.proofs.Collecting.{Rest}
use Rattle.splitting.proofs.+collect_at_collect_from.Given as goal

abbrev pub decreases-collect_at : goal.decreases-collect_at
decreases-collect_at l = 2 * l.left

abbrev pub decreases-collect_from : goal.decreases-collect_from
decreases-collect_from l = 2 * l.left + 1

abbrev pub invariant-collect_from-loop-k : goal.invariant-collect_from-loop-k
invariant-collect_from-loop-k l = (length l.ends ≡ length l.initial.ends) × Going (Rest l.q l.initial.ends l.left l.first l.m l.ends l.n) l.q l.k

abbrev pub decreases-collect_from-loop-k : goal.decreases-collect_from-loop-k
decreases-collect_from-loop-k l = falling (last_of 6 l.q) l.k
