use Prim.Native.Nat.{◌-◌}
use Rattle.satisfaction.proofs.Holding.{Numbering}
use Rattle.satisfaction.specs.Places.{series_count}
use Rattle.satisfaction.proofs.are_single.Given as goal

abbrev pub invariant-loop-i : goal.invariant-loop-i
invariant-loop-i l = Numbering l.v l.m l.initial.work l.i l.end l.work

abbrev pub decreases-loop-i : goal.decreases-loop-i
decreases-loop-i l = series_count - l.i
