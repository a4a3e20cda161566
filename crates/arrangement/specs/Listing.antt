-- The entries of the tables as they stand, each individual before its constraints and those below it: found from the last one on.
use Rattle.std.specs.Prelude.{◌*◌, ◌+◌, ◌-◌, ◌<◌, ◌≤◌, suc, zero, ℕ, Bool, cond, false, List, [], ◌∷◌, map, ◌≡◌, eqb, get_or, length}
use Rattle.arrangement.specs.Insertion.{arranged}
use Rattle.entries.specs.Entries.{HasItems, item_at, items_in}
use Rattle.layout.specs.Places.{tables_end}
use Rattle.layout.specs.Tables.{holder_at}
use Rattle.layout.specs.declared.Tables.{Tables}
use Rattle.meaning.specs.Limits.{most_records}

-- the last of m constraints is individual i's
abbrev pub owns_last : List ℕ → ℕ → ℕ → Bool
owns_last w zero i = false
owns_last w (suc m) i = eqb (holder_at w m) i

-- the last entry of the first i individuals and m constraints
abbrev pub last_entry : List ℕ → ℕ → ℕ → ℕ
last_entry w i m = cond (owns_last w m i) (most_records + (m - 1)) (i - 1)

-- there is one, and it has a row
pub record HasLast (i m : ℕ) (w : List ℕ) : Type 0 where
  pub long : tables_end ≤ length w
  pub some : i ≡ 0 → ⊥
  pub individuals : i ≤ most_records
  pub constraints : m ≤ most_records

-- the entries of the first i individuals and m constraints, at most so many, in front of others
abbrev pub listing : ℕ → List ℕ → ℕ → ℕ → List ℕ → List ℕ
listing zero w i m rest = rest
listing (suc most) w zero m rest = rest
listing (suc most) w (suc i) zero rest = listing most w i zero (i ∷ rest)
listing (suc most) w (suc i) (suc m) rest =
    let constraint = listing most w (suc i) m ((most_records + m) ∷ rest) in
    let individual = listing most w i (suc m) (i ∷ rest) in
    cond (eqb (holder_at w m) (suc i)) constraint individual

-- all entries
abbrev pub entries_of : List ℕ → Tables → List ℕ
entries_of w t = listing (t.individuals + t.constraints) w t.individuals t.constraints []

-- there is room for all of them in the order, of which the slice has every entry
pub record Arrangeable (w : List ℕ) (t : Tables) (o : List ℕ) : Type 0 where
  pub items : HasItems w o
  pub room : t.individuals + t.constraints ≤ length o
  pub few : length o ≤ most_records

-- from place r on the order has the entries of the tables, arranged
pub record Arranged (w ds : List ℕ) (t : Tables) (o o' : List ℕ) (r : ℕ) : Type 0 where
  pub items : items_in w ds o' r (length o') ≡ arranged (map (item_at w ds) (entries_of w t))
  pub within : r ≤ length o'
  pub same : length o' ≡ length o
  pub known : (j : ℕ) → get_or o' j 0 < 2 * most_records
