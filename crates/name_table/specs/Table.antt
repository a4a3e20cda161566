-- A table of names: entry j has three words, from, to and print, and stands for the name's bytes in the text.
use Rattle.std.specs.Prelude.{◌*◌, ◌+◌, ◌<◌, ◌≤◌, suc, zero, ℕ, List, [], ◌∷◌, ◌≡◌, get_or, length, set}
use Rattle.tokens.specs.Places.{part, print_of}
use Rattle.tokens.specs.Tokens.{Token}

abbrev pub name_at : List ℕ → List ℕ → ℕ → Token
name_at text table j = part text (get_or table (3 * j) 0) (get_or table (3 * j + 1) 0)

-- n names from entry j on
abbrev pub names_from : List ℕ → List ℕ → ℕ → ℕ → List Token
names_from text table j zero = []
names_from text table j (suc n) = name_at text table j ∷ names_from text table (suc j) n

pub record Entry (text table : List ℕ) (j : ℕ) : Type 0 where
  pub rises : get_or table (3 * j) 0 ≤ get_or table (3 * j + 1) 0
  pub ends : get_or table (3 * j + 1) 0 ≤ length text
  pub print : get_or table (3 * j + 2) 0 ≡ print_of (name_at text table j)

-- n entries from j on
pub record Listed (text table : List ℕ) (j n : ℕ) : Type 0 where
  pub room : 3 * (j + n) ≤ length table
  pub each : (i : ℕ) → j ≤ i → i < j + n → Entry text table i

-- the table with an entry more
abbrev pub entered : List ℕ → List ℕ → ℕ → ℕ → ℕ → List ℕ
entered text table j from to = set (set (set table (3 * j) from) (3 * j + 1) to) (3 * j + 2) (print_of (part text from to))
