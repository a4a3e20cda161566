use Prim.Native.Nat.{◌-◌, ◌≤◌}
use Rattle.satisfaction.specs.Ranges.{Intersected}
use Rattle.words.specs.Rows.{class_words}
use Rattle.satisfaction.proofs.intersect.Given as goal

abbrev pub invariant-loop-i : goal.invariant-loop-i
invariant-loop-i l = (l.i ≤ class_words) × Intersected l.i l.at l.from l.initial.work l.work

abbrev pub decreases-loop-i : goal.decreases-loop-i
decreases-loop-i l = class_words - l.i
