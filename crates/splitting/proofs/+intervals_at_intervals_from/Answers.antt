use borrow.Author.Rules.{rules}
use native.Mathlib.Omega.{arith}
use Rattle.policy.proofs.Conjuncts.{going_falls}
use Rattle.splitting.proofs.Tallying.{counting_ends, counting_fits, counting_on, counting_one}
use Rattle.splitting.proofs.Tallying.{counting_starts}
use Rattle.splitting.proofs.+intervals_at_intervals_from.Goals as goal

pub intervals_from-loop-k-init : goal.intervals_from-loop-k-init
intervals_from-loop-k-init t c = search counting_starts

pub intervals_from-intervals_at-n-requires : goal.intervals_from-intervals_at-n-requires
intervals_from-intervals_at-n-requires t c = (search rules, search counting_one)

pub intervals_from-overflow_add-n : goal.intervals_from-overflow_add-n
intervals_from-overflow_add-n t c = omega (arith, counting_fits c.loop-k.invariant c.loop-k-test.true c.intervals_at-n.ensures)

pub intervals_from-loop-k-smaller : goal.intervals_from-loop-k-smaller
intervals_from-loop-k-smaller t c = search going_falls

pub intervals_from-loop-k-preserved : goal.intervals_from-loop-k-preserved
intervals_from-loop-k-preserved t c = search counting_on

pub intervals_from-returns : goal.intervals_from-returns
intervals_from-returns t c = search counting_ends
