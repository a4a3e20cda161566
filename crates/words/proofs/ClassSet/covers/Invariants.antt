-- `ClassSet::covers`: word by word, whether the union has changed none so far.
use Prim.Native.Nat.{◌-◌, ◌≤◌}
use mathlib.Core.Bool.{true}
use mathlib.Core.Logic.{◌↔◌}
use mathlib.Core.Path.{◌≡◌}
use Rattle.words.proofs.Growth.{KeptTo}
use Rattle.words.specs.Rows.{class_words}
use Rattle.words.proofs.ClassSet.covers.Given as goal

abbrev pub invariant-loop-i : goal.invariant-loop-i
invariant-loop-i l = (l.i ≤ class_words) × ((l.same ≡ true) ↔ KeptTo l.self.words l.other.words l.i)

abbrev pub decreases-loop-i : goal.decreases-loop-i
decreases-loop-i l = class_words - l.i
