-- `find_dials`: the dials among the first m constraints stand in front.
use Prim.Native.Nat.{◌-◌, ◌≤◌}
use Rattle.odometer.proofs.Finding.{Finding}
use Rattle.odometer.proofs.find_dials.Given as goal

abbrev pub invariant-loop-m : goal.invariant-loop-m
invariant-loop-m l = (l.m ≤ l.n) × Finding l.work l.initial.dials l.dials l.m l.found

abbrev pub decreases-loop-m : goal.decreases-loop-m
decreases-loop-m l = l.n - l.m
