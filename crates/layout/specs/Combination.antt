-- The combination that the tables of the work slice hold: a row for each individual, and beside each constraint its piece.
use Rattle.std.specs.Prelude.{◌+◌, ◌<◌, ◌≤◌, suc, zero, ℕ, cond, List, [], ◌∷◌, ◌≡◌, eqb, ltb}
use Rattle.layout.specs.Tables.{Above, holder_at, parent_at, piece_at, role_at, set_at}
use Rattle.layout.specs.declared.Tables.{Tables}
use Rattle.meaning.specs.Countermodel.{individuals, size}
use Rattle.meaning.specs.Intervals.{Constraint}
use Rattle.meaning.specs.NormalForm.{Form, Node, Successors, none, successor}
use Rattle.meaning.specs.Vocabulary.{Vocabulary}

-- ---- the words

-- what v has in place of the constraints of individual x, among so many from m on
unfoldable pub chosen_from : (ℕ → Constraint) → List ℕ → ℕ → ℕ → ℕ → List Constraint
chosen_from v w x zero m = []
chosen_from v w x (suc left) m = let rest = chosen_from v w x left (suc m) in cond (eqb (holder_at w m) x) (v m ∷ rest) rest

-- the pieces of individual x among so many constraints from m on, and among the first n
abbrev pub pieces_from : List ℕ → ℕ → ℕ → ℕ → List Constraint
pieces_from w = chosen_from (piece_at w) w

abbrev pub pieces_of : List ℕ → ℕ → ℕ → List Constraint
pieces_of w n x = pieces_from w x n 0

-- among so many rows from j on, the next successor of individual x: rows of individuals below another one are passed over, a
-- smaller parent's row stands after all that is below x; the end of the rows where there is none
unfoldable pub next_successor : List ℕ → ℕ → ℕ → ℕ → ℕ
next_successor w x zero j = j
next_successor w x (suc left) j =
    let on = next_successor w x left (suc j) in
    cond (ltb (parent_at w j) x) (j + suc left) (cond (eqb (parent_at w j) x) j on)

-- ---- what they hold, with what v has in place of each constraint

-- row n and what is chosen for n + 1's constraints, of so many, are the individual's
pub record IndividualBy (v : ℕ → Constraint) (K : Vocabulary) (w : List ℕ) (top n : ℕ) (m : Node) : Type 0 where
  pub classes : Above K (set_at w n) m.classes
  pub pieces : chosen_from v w (suc n) top 0 ≡ m.constraints

-- the individuals below individual i have the rows from n on, in the order of their numbers (SPECIFICATION 6.2)
abbrev pub BelowBy : (ℕ → Constraint) → Vocabulary → List ℕ → ℕ → Successors → ℕ → ℕ → Type 0
BelowBy v K w top none i n = Unit {0}
BelowBy v K w top (successor r m under next) i n =
    (parent_at w n ≡ i) × (role_at w n ≡ r) × IndividualBy v K w top n m × BelowBy v K w top under (suc n) (suc n) × BelowBy v K w top next i (suc n + size under)

-- the tables hold the form u
pub record CombinedBy (v : ℕ → Constraint) (K : Vocabulary) (u : Form) (w : List ℕ) (t : Tables) : Type 0 where
  pub count : t.individuals ≡ individuals u
  pub root : IndividualBy v K w t.constraints 0 u.node
  pub below : BelowBy v K w t.constraints u.successors 1 1

-- ---- the combination: with the pieces

abbrev pub Individual : Vocabulary → List ℕ → ℕ → ℕ → Node → Type 0
Individual K w = IndividualBy (piece_at w) K w

abbrev pub Below : Vocabulary → List ℕ → ℕ → Successors → ℕ → ℕ → Type 0
Below K w = BelowBy (piece_at w) K w

abbrev pub Combined : Vocabulary → Form → List ℕ → Tables → Type 0
Combined K u w t = CombinedBy (piece_at w) K u w t

-- ---- for a walk over the successors of an individual

-- the individuals ks are all that is below individual x from row j on, among so many rows: they end there, or a smaller parent's
-- row follows
pub record Kin (v : ℕ → Constraint) (K : Vocabulary) (w : List ℕ) (t : Tables) (x j : ℕ) (ks : Successors) : Type 0 where
  pub below : BelowBy v K w t.constraints ks x j
  pub fits : j + size ks ≤ t.individuals
  pub ends : j + size ks < t.individuals → parent_at w (j + size ks) < x
