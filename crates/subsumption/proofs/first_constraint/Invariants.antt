-- `first_constraint`: what is sought stands from low to high.
use Prim.Native.Nat.{◌-◌}
use Rattle.subsumption.proofs.Pieces.{Halving}
use Rattle.subsumption.proofs.first_constraint.Given as goal

abbrev pub invariant-loop-low : goal.invariant-loop-low
invariant-loop-low l = Halving l.work l.initial.high l.x l.low l.high

abbrev pub decreases-loop-low : goal.decreases-loop-low
decreases-loop-low l = l.high - l.low
