-- Some words of a slice, from a place on.
use Rattle.std.specs.Prelude.{◌+◌, ℕ, List, ◌++◌, ◌≡◌, drop, length, take}

-- the n words from a place on
abbrev pub row_at : ℕ → List ℕ → ℕ → List ℕ
row_at n ws at = take n (drop at ws)

-- the words with others in the place of theirs, from a place on
abbrev pub put_at : List ℕ → ℕ → List ℕ → List ℕ
put_at ws at vs = take at ws ++ (vs ++ drop (at + length vs) ws)

-- `after` is `before` with `printed` in the place of what stood there from `at` on, and no longer; the next place is r
pub record Put (before : List ℕ) (at : ℕ) (printed after : List ℕ) (r : ℕ) : Type 0 where
  pub text : after ≡ put_at before at printed
  pub place : r ≡ at + length printed
  pub size : length after ≡ length before
