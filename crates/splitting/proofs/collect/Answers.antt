use native.Mathlib.Omega.{arith}
use Rattle.splitting.proofs.Policies.{collecting_child, collecting_ends, collecting_falls, collecting_on}
use Rattle.splitting.proofs.Policies.{collecting_starts}
use Rattle.splitting.proofs.collect.Goals as goal

pub loop-k-init : goal.loop-k-init
loop-k-init c = search collecting_starts

pub collect_from-n-requires : goal.collect_from-n-requires
collect_from-n-requires c = search collecting_child

pub loop-k-smaller : goal.loop-k-smaller
loop-k-smaller c = search collecting_falls

pub loop-k-preserved : goal.loop-k-preserved
loop-k-preserved c = search collecting_on

pub returns : goal.returns
returns c = collecting_ends c.loop-k.invariant (λ i. omega (arith, c.type_inv.q i)) c.loop-k-test.false
