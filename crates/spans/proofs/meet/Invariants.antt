use Prim.Native.Nat.{◌+◌, ◌-◌, ◌≤◌}
use lib.Bits.{bit_and}
use lib.ListN.{get_or, length}
use mathlib.Core.Path.{◌≡◌}
use Rattle.satisfaction.specs.Places.{record_words}
use Rattle.words.proofs.Steps.{Filled}
use Rattle.spans.proofs.meet.Given as goal

abbrev pub invariant-loop-i : goal.invariant-loop-i
invariant-loop-i l =
    (l.i ≤ record_words) × (length l.words ≡ record_words) × Filled (λ j. bit_and (get_or l.columns (l.from + j) 0) (get_or l.columns (l.mask + j) 0)) l.words l.i

abbrev pub decreases-loop-i : goal.decreases-loop-i
decreases-loop-i l = record_words - l.i
