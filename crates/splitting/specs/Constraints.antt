-- SPECIFICATION 7.2 and 7.3: the constraints of the tables, how many combinations they have, and the pieces that stand beside them.
use Rattle.std.specs.Prelude.{◌<◌, ◌≤◌, min, suc, ℕ, List, map, ◌≡◌, length}
use Rattle.frames.specs.Frames.{Only}
use Rattle.layout.specs.Places.{tables_end}
use Rattle.layout.specs.Tables.{Pieces, constraint_at, piece_at}
use Rattle.meaning.specs.Intervals.{Constraint, NonEmpty}
use Rattle.meaning.specs.Limits.{most_combinations, most_records}
use Rattle.meaning.specs.Lists.{At, counting}
use Rattle.meaning.specs.Policy.{Policy}
use Rattle.meaning.specs.Splitting.{pieces, product}
use Rattle.splitting.specs.Ends.{Ends}

-- the first n constraints of the tables
abbrev pub first_constraints : List ℕ → ℕ → List Constraint
first_constraints w n = map (constraint_at w) (counting 0 n)

-- none of the first n is empty
abbrev pub Full : List ℕ → ℕ → Type 0
Full w n = (m : ℕ) → m < n → NonEmpty (constraint_at w m).lo (constraint_at w m).hi

-- what splitting asks of the tables
pub record Splittable (w : List ℕ) (n : ℕ) : Type 0 where
  pub few : n ≤ most_records
  pub long : tables_end ≤ length w
  pub full : Full w n

-- how many pieces constraint m has
abbrev pub piece_count : Policy → List ℕ → ℕ → ℕ
piece_count Q w m = length (pieces Q (constraint_at w m))

-- n constraints, or fewer, have at most 65,536 combinations, whatever they are, for whatever policy the pairs are the ends of
abbrev pub Few : List ℕ → ℕ → Type 0
Few e n = (Q : Policy) → Ends Q e → (l : List Constraint) → length l ≤ n → product Q l ≤ most_combinations

-- r is how many combinations the first n have, 65,537 where they are more, for whatever policy the pairs are the ends of
abbrev pub Multiplied : List ℕ → List ℕ → ℕ → ℕ → Type 0
Multiplied e w n r = (Q : Policy) → Ends Q e → r ≡ min (product Q (first_constraints w n)) (suc most_combinations)

-- each of the first n constraints is at its first piece, whatever the second policy is
pub record Started (n : ℕ) (w w' : List ℕ) : Type 0 where
  pub first : (Q : Policy) (m : ℕ) → m < n → At (piece_at w' m) (pieces Q (constraint_at w' m)) 0
  pub only : Only (Pieces n) w w'
