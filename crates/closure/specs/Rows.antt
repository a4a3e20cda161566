-- The rows of the work slice, a set of classes each: the classes above a class, and those above a role's ranges.
use Rattle.std.specs.Prelude.{◌*◌, ◌+◌, ◌<◌, ◌≤◌, suc, zero, ℕ, Bool, false, true, ◌≡◌, length, replicate}
use mathlib.Core.List.{List, foldl}
use Rattle.frames.specs.Frames.{Only, Span}
use Rattle.frames.specs.Rows.{put_at, row_at}
use Rattle.layout.specs.Places.{role_row, row_place}
use Rattle.meaning.specs.Limits.{most_classes, most_roles}
use Rattle.meaning.specs.Lists.{any}
use Rattle.meaning.specs.Records.{Name}
use Rattle.meaning.specs.Stated.{is_below, range_pair, ranges, subclass}
use Rattle.meaning.specs.Vocabulary.{Axiom, Vocabulary, class_count, role_count, vocabulary_of}
use Rattle.words.specs.Rows.{class_words}
use Rattle.words.specs.Sets.{in_set, including, union_of, word_sum}

-- row i
abbrev pub row_of : List ℕ → ℕ → List ℕ
row_of w i = row_at class_words w (row_place i)

abbrev pub with_row : List ℕ → ℕ → List ℕ → List ℕ
with_row w i s = put_at w (row_place i) s

-- ---- what the rows hold

-- in w's first rows stands what is above each class of v, the class itself among it
pub record ClosedRows (v w : List ℕ) : Type 0 where
  pub fits : class_count v * class_words ≤ length w
  pub rows : (a b : ℕ) → Name (class_count v) a → in_set (row_of w a) b ≡ is_below (vocabulary_of v) a b

-- what a row tells of every vocabulary whose rows these are
abbrev pub ContainsAbove : List ℕ → ℕ → List ℕ → Type 0
ContainsAbove w a s = (v : List ℕ) → ClosedRows v w → Name (class_count v) a → (b : ℕ) → in_set s b ≡ is_below (vocabulary_of v) a b

-- w' is w but for these rows
pub record Closed (v w w' : List ℕ) : Type 0 where
  pub only : Only (Span 0 (class_count v * class_words)) w w'
  pub closed : ClosedRows v w'

-- b is above a range of r: every value of r is in it
abbrev pub is_ranged : Vocabulary → ℕ → ℕ → Bool
is_ranged K r b = any (λ c. is_below K c b) (ranges K r)

-- in w stand the classes above each role's ranges
pub record RangeRows (v w : List ℕ) : Type 0 where
  pub fits : role_row (role_count v) * class_words ≤ length w
  pub rows : (r b : ℕ) → Name (role_count v) r → in_set (row_of w (role_row r)) b ≡ is_ranged (vocabulary_of v) r b

abbrev pub ContainsRanged : List ℕ → ℕ → List ℕ → Type 0
ContainsRanged w r s = (v : List ℕ) → RangeRows v w → Name (role_count v) r → (b : ℕ) → in_set s b ≡ is_ranged (vocabulary_of v) r b

-- there is room for them
abbrev pub RoleRoom : List ℕ → List ℕ → Type 0
RoleRoom v w = (role_count v ≤ most_roles) × (class_count v ≤ most_classes) × (role_row (role_count v) * class_words ≤ length w)

-- the places of the rows of v's roles
abbrev pub RolePlaces : List ℕ → ℕ → Type 0
RolePlaces v = Span (most_classes * class_words) (role_row (role_count v) * class_words)

-- w' is w but for these rows
pub record Ranged (v w w' : List ℕ) : Type 0 where
  pub only : Only (RolePlaces v) w w'
  pub closed : ClosedRows v w'
  pub ranged : RangeRows v w'

-- ---- how they come about

-- n rows from row first + 1 on, each as f says
unfoldable pub fill_rows : ℕ → (ℕ → List ℕ) → ℕ → List ℕ → List ℕ
fill_rows first f zero w = w
fill_rows first f (suc i) w = with_row (fill_rows first f i w) (first + suc i) (f (suc i))

abbrev pub empty : List ℕ
empty = replicate class_words 0

-- each class is above itself
abbrev pub begun : ℕ → List ℕ → List ℕ
begun n w = fill_rows 0 (including empty) n w

-- no class is above a range
abbrev pub emptied : ℕ → List ℕ → List ℕ
emptied n w = fill_rows most_classes (λ r. empty) n w

-- row i with what row j has
unfoldable pub joined : List ℕ → ℕ → ℕ → List ℕ
joined w i j = with_row w i (union_of (row_of w i) (row_of w j))

-- what is above b is above a, where a record says that a is below b
abbrev pub lift : List ℕ → ℕ × ℕ → List ℕ
lift w p = joined w p.0 p.1

abbrev pub lifted : List ℕ → Axiom → List ℕ
lifted w x = foldl lift w (subclass x)

-- what is above c is above a range of r, where a record says that c is one
abbrev pub extend : List ℕ → ℕ × ℕ → List ℕ
extend w p = joined w (role_row p.0) p.1

abbrev pub widened : List ℕ → Axiom → List ℕ
widened w x = foldl extend w (range_pair x)

-- from w to w' the words' sum grew, or nothing changed
abbrev pub Grown : Bool → List ℕ → List ℕ → Type 0
Grown true w w' = word_sum w < word_sum w'
Grown false w w' = w' ≡ w
