use native.Mathlib.Omega.{arith}
use Rattle.keys.proofs.Ranking.{halving_down, halving_ends, halving_starts, halving_up}
use Rattle.keys.proofs.rank.Goals as goal

pub loop-low-init : goal.loop-low-init
loop-low-init c = halving_starts

pub loop-low-preserved-then-keys-middle : goal.loop-low-preserved-then-keys-middle
loop-low-preserved-then-keys-middle c = halving_up c.loop-low.invariant (omega arith) (omega arith) c.if-keys-middle.true

pub loop-low-preserved : goal.loop-low-preserved
loop-low-preserved c = halving_down c.loop-low.invariant (omega arith) (omega arith) c.if-keys-middle.false

pub returns : goal.returns
returns c = search halving_ends
