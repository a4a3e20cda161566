use Prim.Native.Nat.{◌-◌, ◌≤◌}
use Rattle.spans.specs.Joining.{Joined}
use Rattle.satisfaction.specs.Places.{record_words}
use Rattle.spans.proofs.join.Given as goal

abbrev pub invariant-loop-i : goal.invariant-loop-i
invariant-loop-i l = (l.i ≤ record_words) × Joined l.i l.at l.from l.mask l.columns l.initial.work l.work

abbrev pub decreases-loop-i : goal.decreases-loop-i
decreases-loop-i l = record_words - l.i
