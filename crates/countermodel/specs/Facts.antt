-- The records of the canonical model, as the tables alone give them: row by row, each row's classes, pairs and edges.
use Rattle.std.specs.Prelude.{◌*◌, ◌+◌, ◌-◌, ◌<◌, ◌≤◌, suc, zero, ℕ, Bool, ◌&&◌, true, cond, IfSome, Option, None, Some, List, [], ◌++◌, ◌∷◌, map, ◌≡◌, eqb, ltb, length}
use Rattle.layout.specs.Combination.{Combined, pieces_of}
use Rattle.layout.specs.Tables.{Standing, holder_at, parent_at, piece_at, role_at, set_at}
use Rattle.layout.specs.declared.Tables.{Tables}
use Rattle.meaning.specs.Countermodel.{canonical_model, countermodel, pair_before, pairs}
use Rattle.meaning.specs.Intervals.{Constraint, value_of}
use Rattle.meaning.specs.Limits.{most_classes}
use Rattle.meaning.specs.Lists.{filter}
use Rattle.meaning.specs.Model.{Fact, edge, member, value}
use Rattle.meaning.specs.Normal.{Bounded, Normal}
use Rattle.meaning.specs.NormalForm.{Form}
use Rattle.meaning.specs.Operations.{output_after}
use Rattle.meaning.specs.Records.{Name}
use Rattle.meaning.specs.Vocabulary.{Vocabulary}
use Rattle.words.specs.Members.{members}

-- the tables hold the combination u, a normal one, and the vocabulary's classes have a bit in a set
pub record Modelled (K : Vocabulary) (u : Form) (w : List ℕ) (t : Tables) : Type 0 where
  pub few : K.classes ≤ most_classes
  pub bounded : Bounded K
  pub normal : Normal (Name K.classes) K u
  pub combined : Combined K u w t

-- r counts the records of the model of the combination that the tables hold
abbrev pub CountsModel : List ℕ → Tables → ℕ → Type 0
CountsModel w t r = (K : Vocabulary) (u : Form) → Modelled K u w t → r ≡ length (canonical_model K u)

-- the output o became o': the countermodel of the combination that the tables hold, and behind it what stood there
abbrev pub ModelWritten : List ℕ → Tables → List ℕ → List ℕ → Type 0
ModelWritten w t o o' = (K : Vocabulary) (u : Form) → Modelled K u w t → o' ≡ output_after (countermodel K u) o

-- the classes, rising (SPECIFICATION 8.4), of row i, individual i + 1
unfoldable pub member_facts : List ℕ → ℕ → List Fact
member_facts w i = map (λ c. member c (i + 1)) (members (set_at w i))

-- ---- the pairs of a feature and a value, rising, each once, of individual x among n constraints

abbrev pub value_fact : ℕ → Constraint → Fact
value_fact x s = value s.feature x (value_of s)

unfoldable pub value_facts : List ℕ → ℕ → ℕ → List Fact
value_facts w n x = map (value_fact x) (pairs (pieces_of w n x))

-- piece s stands above constraint m's; every one does where there is no m
abbrev pub is_above : List ℕ → Option ℕ → Constraint → Bool
is_above w None s = true
is_above w (Some m) s = pair_before (piece_at w m) s

-- it stands before that of the best so far; every one does where there is none
abbrev pub is_under : List ℕ → Constraint → Option ℕ → Bool
is_under w s None = true
is_under w s (Some b) = pair_before s (piece_at w b)

-- constraint i is x's, above m's pair and before that of the best so far
abbrev pub is_better : List ℕ → ℕ → Option ℕ → Option ℕ → ℕ → Bool
is_better w x m best i = eqb (holder_at w i) x && (is_above w m (piece_at w i) && is_under w (piece_at w i) best)

unfoldable pub pairs_above : List ℕ → ℕ → ℕ → Option ℕ → List Constraint
pairs_above w n x m = filter (is_above w m) (pairs (pieces_of w n x))

-- constraint m's pair and those above it; none where there is no m
unfoldable pub values_from : List ℕ → ℕ → ℕ → Option ℕ → List Fact
values_from w n x None = []
values_from w n x (Some m) = value_fact x (piece_at w m) ∷ map (value_fact x) (pairs_above w n x (Some m))

-- constraint r has the least pair above constraint m's, of n constraints; there is no r where there is no such pair
abbrev pub NextPair : List ℕ → ℕ → ℕ → Option ℕ → Option ℕ → Type 0
NextPair w n x m r = IfSome r (λ k. k < n) × (values_from w n x r ≡ map (value_fact x) (pairs_above w n x m))

-- ---- the edges by target, of individual x

-- the edges of individual x among so many rows from j on; a smaller parent's row stands after all that is below x
unfoldable pub edges_from : List ℕ → ℕ → ℕ → ℕ → List Fact
edges_from w x zero j = []
edges_from w x (suc left) j =
    let rest = edges_from w x left (suc j) in
    cond (ltb (parent_at w j) x) [] (cond (eqb (parent_at w j) x) (edge (role_at w j) x (suc j) ∷ rest) rest)

-- what is below x stands after it, of n rows
abbrev pub edge_facts : List ℕ → ℕ → ℕ → List Fact
edge_facts w n x = edges_from w x (n - x) x

-- ---- for each individual in turn

unfoldable pub facts_at : List ℕ → Tables → ℕ → List Fact
facts_at w t i = member_facts w i ++ (value_facts w t.constraints (i + 1) ++ edge_facts w t.individuals (i + 1))

-- the facts of so many rows from i on
unfoldable pub facts_from : List ℕ → Tables → ℕ → ℕ → List Fact
facts_from w t zero i = []
facts_from w t (suc left) i = facts_at w t i ++ facts_from w t left (suc i)

abbrev pub table_facts : List ℕ → Tables → List Fact
table_facts w t = facts_from w t t.individuals 0

abbrev pub record_count : List ℕ → Tables → ℕ
record_count w t = length (table_facts w t)

-- the tables stand, there are so many records, and the output has room for them and the header
abbrev pub Writable : List ℕ → Tables → ℕ → List ℕ → Type 0
Writable w t records o = Standing w t × (records ≡ record_count w t) × (5 * (records + 1) ≤ length o)
