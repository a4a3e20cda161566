-- What a call may change of a slice: the places that it may, and that every other word is as it was.
use Rattle.std.specs.Prelude.{◌+◌, ◌<◌, ◌≤◌, ℕ, List, ◌≡◌, get_or, length}

-- w' is w but for words at these places
pub record Only (places : ℕ → Type 0) (w w' : List ℕ) : Type 0 where
  pub size : length w' ≡ length w
  pub others : (i : ℕ) → (places i → ⊥) → get_or w' i 0 ≡ get_or w i 0

-- the places from one to before another
pub record Span (from to i : ℕ) : Type 0 where
  pub low : from ≤ i
  pub high : i < to

-- w' is w but for n words from a place on, which w has and which are 0
pub record Cleared (at n : ℕ) (w w' : List ℕ) : Type 0 where
  pub fits : at + n ≤ length w
  pub only : Only (Span at (at + n)) w w'
  pub zeros : (i : ℕ) → at ≤ i → i < at + n → get_or w' i 0 ≡ 0
