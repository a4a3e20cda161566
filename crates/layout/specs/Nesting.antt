-- The order of the tables: individuals by their numbers (SPECIFICATION 6.2), constraints by individual (SPECIFICATION 7.3).
use Rattle.std.specs.Prelude.{◌<◌, ◌≤◌, ℕ, List}
use Rattle.layout.specs.Tables.{holder_at, parent_at}
use Rattle.layout.specs.declared.Tables.{Tables}

pub record Nested (w : List ℕ) (t : Tables) : Type 0 where
  -- a parent stands before it
  pub before : (j : ℕ) → j < t.individuals → parent_at w j ≤ j
  -- what stands between an individual's parent and it is below the parent, too
  pub between : (i j : ℕ) → i < j → j < t.individuals → parent_at w j ≤ i → parent_at w j ≤ parent_at w i
  -- the constraints go by individual
  pub rising : (i j : ℕ) → i ≤ j → j < t.constraints → holder_at w i ≤ holder_at w j
