-- Whether two intervals have a value in common.
use Rattle.std.specs.Prelude.{ℕ, Bool, ◌&&◌, leb}

-- neither of two intervals that have values lies wholly above the other
abbrev pub touches : ℕ → ℕ → ℕ → ℕ → Bool
touches lo hi lo' hi' = leb lo' hi && leb lo hi'
