-- `ClassSet::union`: word by word.
use Prim.Native.Nat.{◌-◌, ◌≤◌}
use lib.Bits.{bit_or}
use lib.ListN.{get_or, length}
use mathlib.Core.Path.{◌≡◌}
use Rattle.words.proofs.Steps.{Filled}
use Rattle.words.specs.Rows.{class_words}
use Rattle.words.proofs.ClassSet.union.Given as goal

abbrev pub invariant-loop-i : goal.invariant-loop-i
invariant-loop-i l =
    (l.i ≤ class_words) × (length l.words ≡ class_words) × Filled (λ j. bit_or (get_or l.self.words j 0) (get_or l.other.words j 0)) l.words l.i

abbrev pub decreases-loop-i : goal.decreases-loop-i
decreases-loop-i l = class_words - l.i
