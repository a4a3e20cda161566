-- `rank`: the place lies from low to high.
use Prim.Native.Nat.{◌-◌}
use Rattle.keys.proofs.Ranking.{Halving}
use Rattle.keys.proofs.rank.Given as goal

abbrev pub invariant-loop-low : goal.invariant-loop-low
invariant-loop-low l = Halving l.keys l.n l.k l.low l.high

abbrev pub decreases-loop-low : goal.decreases-loop-low
decreases-loop-low l = l.high - l.low
