-- What the lent slices hold after a call.
use Rattle.std.specs.Prelude.{◌<◌, ◌≤◌, ℕ, List, ◌≡◌, drop, get_or, length}
use Rattle.meaning.specs.Limits.{work_size}

-- SPECIFICATION 9.9: the first 16,384 words of the work slice are 0, later ones as they were
pub record WorkCleared (w w' : List ℕ) : Type 0 where
  pub full : work_size ≤ length w
  pub size : length w' ≡ length w
  pub zeros : (i : ℕ) → i < work_size → get_or w' i 0 ≡ 0
  pub later : drop work_size w' ≡ drop work_size w

-- SPECIFICATION 9.9: n words are written at the front of the output, and no others
pub record WritesFirst (n : ℕ) (o o' : List ℕ) : Type 0 where
  pub fits : n ≤ length o
  pub size : length o' ≡ length o
  pub later : drop n o' ≡ drop n o
