-- The tables of individuals and constraints: their words, the changes of one entry, and what it means that they hold a form.
use Rattle.std.specs.Prelude.{◌+◌, ◌<◌, ◌≤◌, suc, ℕ, List, [], ◌++◌, ◌∷◌, ◌≡◌, get_or, length}
use Rattle.frames.specs.Frames.{Only, Span}
use Rattle.frames.specs.Rows.{row_at}
use Rattle.layout.specs.Places.{constraint_place, individual_place, tables_end}
use Rattle.layout.specs.declared.Tables.{Tables}
use Rattle.meaning.specs.Countermodel.{individuals, size}
use Rattle.meaning.specs.Intervals.{Constraint}
use Rattle.meaning.specs.Limits.{most_records}
use Rattle.meaning.specs.Lists.{any}
use Rattle.meaning.specs.NormalForm.{Form, Successors, none, successor}
use Rattle.meaning.specs.Splitting.{constraints_of}
use Rattle.meaning.specs.Stated.{is_below}
use Rattle.meaning.specs.Vocabulary.{Vocabulary}
use Rattle.words.specs.Rows.{class_words}
use Rattle.words.specs.Sets.{in_set}

-- ---- the words

-- the slice has an entry n of the tables
abbrev pub HasEntry : ℕ → List ℕ → Type 0
HasEntry n w = (n < most_records) × (tables_end ≤ length w)

-- the slice has the first n entries of the tables
abbrev pub HasEntries : ℕ → List ℕ → Type 0
HasEntries n w = (n ≤ most_records) × (tables_end ≤ length w)

-- the parent, the role and the set of row n, which is individual n + 1's
abbrev pub parent_at : List ℕ → ℕ → ℕ
parent_at w n = get_or w (individual_place n) 0

abbrev pub role_at : List ℕ → ℕ → ℕ
role_at w n = get_or w (individual_place n + 1) 0

abbrev pub set_at : List ℕ → ℕ → List ℕ
set_at w n = row_at class_words w (individual_place n + 2)

-- the individual that constraint m is of, the constraint, and its piece
abbrev pub holder_at : List ℕ → ℕ → ℕ
holder_at w m = get_or w (constraint_place m) 0

abbrev pub interval_of : ℕ → ℕ → ℕ → Constraint
interval_of f lo hi = record { feature = f; lo = lo; hi = hi }

unfoldable pub constraint_at : List ℕ → ℕ → Constraint
constraint_at w m = interval_of (get_or w (constraint_place m + 1) 0) (get_or w (constraint_place m + 2) 0) (get_or w (constraint_place m + 3) 0)

unfoldable pub piece_at : List ℕ → ℕ → Constraint
piece_at w m = interval_of (get_or w (constraint_place m + 1) 0) (get_or w (constraint_place m + 4) 0) (get_or w (constraint_place m + 5) 0)

-- a constraint and the individual that it is of
pub record Held : Type 0 where
  pub individual : ℕ
  pub constraint : Constraint

abbrev pub held_at : List ℕ → ℕ → Held
held_at w m = record { individual = holder_at w m; constraint = constraint_at w m }

-- ---- what an entry's writer leaves

pub record IndividualPut (n i r : ℕ) (s w w' : List ℕ) : Type 0 where
  pub parent : parent_at w' n ≡ i
  pub role : role_at w' n ≡ r
  pub classes : set_at w' n ≡ s
  pub only : Only (Span (individual_place n) (individual_place (suc n))) w w'

pub record ConstraintPut (m x f lo hi : ℕ) (w w' : List ℕ) : Type 0 where
  pub held : held_at w' m ≡ record { individual = x; constraint = interval_of f lo hi }
  pub only : Only (Span (constraint_place m) (constraint_place m + 4)) w w'

pub record PiecePut (m lo hi : ℕ) (w w' : List ℕ) : Type 0 where
  pub piece : piece_at w' m ≡ interval_of (constraint_at w m).feature lo hi
  pub only : Only (Span (constraint_place m + 4) (constraint_place (suc m))) w w'

-- the places of the pieces of the first n constraints
pub record Pieces (n i : ℕ) : Type 0 where
  pub constraint : ℕ
  pub few : constraint < n
  pub span : Span (constraint_place constraint + 4) (constraint_place (suc constraint)) i

-- ---- what they hold of a form

-- the set is that of the classes above the list's
abbrev pub Above : Vocabulary → List ℕ → List ℕ → Type 0
Above K ws cs = (b : ℕ) → in_set ws b ≡ any (λ c. is_below K c b) cs

-- row n: parent i, role r, and the classes above cs
pub record RowStands (K : Vocabulary) (w : List ℕ) (n i r : ℕ) (cs : List ℕ) : Type 0 where
  pub parent : parent_at w n ≡ i
  pub role : role_at w n ≡ r
  pub classes : Above K (set_at w n) cs

-- the individuals below individual i have the rows from n on, in the order of their numbers (SPECIFICATION 6.2)
abbrev pub RowsStand : Vocabulary → List ℕ → Successors → ℕ → ℕ → Type 0
RowsStand K w none i n = Unit {0}
RowsStand K w (successor r m under next) i n =
    RowStands K w n i r m.classes × RowsStand K w under (suc n) (suc n) × RowsStand K w next i (suc n + size under)

abbrev pub held_by : ℕ → List Constraint → List Held
held_by x [] = []
held_by x (s ∷ l) = record { individual = x; constraint = s } ∷ held_by x l

-- the constraints of individuals that have the numbers from k on
abbrev pub held_below : Successors → ℕ → List Held
held_below none k = []
held_below (successor r n under next) k = held_by k n.constraints ++ (held_below under (suc k) ++ held_below next (suc k + size under))

-- the constraints by individual, then by place (SPECIFICATION 7.3): `constraints t`, each with its individual
abbrev pub held_in : Form → List Held
held_in t = held_by 1 t.node.constraints ++ held_below t.successors 2

-- the constraints from m on are the list's
abbrev pub ConstraintsStand : List ℕ → ℕ → List Held → Type 0
ConstraintsStand w m [] = Unit {0}
ConstraintsStand w m (h ∷ l) = (held_at w m ≡ h) × ConstraintsStand w (suc m) l

-- the tables stand in the slice
pub record Standing (w : List ℕ) (t : Tables) : Type 0 where
  pub long : tables_end ≤ length w
  pub individuals : t.individuals ≤ most_records
  pub constraints : t.constraints ≤ most_records

-- the tables hold the form: the first individual is by role 0 below individual 0, which there are not
pub record Tabled (K : Vocabulary) (t : Form) (w : List ℕ) (r : Tables) : Type 0 where
  pub count : r.individuals ≡ individuals t
  pub top : r.constraints ≡ length (constraints_of t)
  pub rows : RowsStand K w (successor 0 t.node t.successors none) 0 0
  pub held : ConstraintsStand w 0 (held_in t)
