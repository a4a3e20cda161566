-- SPECIFICATION 6: normal form, by the seven rules of Bonatti, Table 1.
use Rattle.std.specs.Prelude.{ℕ, Bool, ◌&&◌, ◌||◌, cond, false, not, true, List, [], ◌∷◌, eqb}
use Rattle.meaning.specs.Intervals.{Constraint, is_non_empty, meet}
use Rattle.meaning.specs.Lists.{all, any}
use Rattle.meaning.specs.Policy.{Chain, class, end, impossible, interval, some}
use Rattle.meaning.specs.Stated.{disjoint_pairs, is_below, is_functional_feature, is_functional_role, ranges}
use Rattle.meaning.specs.Vocabulary.{Vocabulary}

-- one individual of a normal form: its classes, and its constraints in place order
pub record Node : Type 0 where
  pub classes : List ℕ
  pub constraints : List Constraint

-- the individuals that an individual's roles reach, in place order: role, individual, those below it, the next ones
pub data Successors : Type 0 where
  none : Successors
  successor : ℕ → Node → Successors → Successors → Successors

-- a normal form: the order of its individuals' numbers, SPECIFICATION 6.2, is the order of the constructors
pub record Form : Type 0 where
  pub node : Node
  pub successors : Successors

-- SPECIFICATION 6.3, rule 5: constraints on a functional feature are merged at the first one's place; those on another stay
-- separate
abbrev pub place_constraint : Bool → Constraint → List Constraint → List Constraint
place_constraint one s [] = s ∷ []
place_constraint one s (t ∷ l) = cond (one && eqb t.feature s.feature) (meet t s ∷ l) (t ∷ place_constraint one s l)

abbrev pub graft : ℕ → Form → Successors → Successors
graft r t next = successor r t.node t.successors next

-- rule 4: `grow` adds the inner conjuncts to the first individual by r where r is functional, behind those that it has, else to a
-- new one
abbrev pub place_successor : Bool → ℕ → Form → (Form → Form) → Successors → Successors
place_successor one r fresh grow none = graft r (grow fresh) none
place_successor one r fresh grow (successor q n under next) =
    let further = successor q n under (place_successor one r fresh grow next) in
    cond (one && eqb r q) (graft q (grow (record { node = n; successors = under })) next) further

abbrev pub with_class : ℕ → Form → Form
with_class c t = record { node = record { classes = c ∷ t.node.classes; constraints = t.node.constraints }; successors = t.successors }

abbrev pub with_constraint : Vocabulary → Constraint → Form → Form
with_constraint K s t = record {
  node = record { classes = t.node.classes; constraints = place_constraint (is_functional_feature K s.feature) s t.node.constraints };
  successors = t.successors;
}

-- an individual of which nothing is said but these classes
abbrev pub bare : List ℕ → Form
bare cs = record { node = record { classes = cs; constraints = [] }; successors = none }

-- rule 6: a new individual by r is in r's ranges
abbrev pub with_successor : Vocabulary → ℕ → (Form → Form) → Form → Form
with_successor K r grow t = record {
  node = t.node;
  successors = place_successor (is_functional_role K r) r (bare (ranges K r)) grow t.successors;
}

-- SPECIFICATION 6.3: the conjuncts of a chain, one after another, added to a form
abbrev pub add : Vocabulary → Chain → Form → Form
add K end t = t
add K (class a next) t = add K next (with_class a t)
add K (impossible next) t = add K next t
add K (some r child next) t = add K next (with_successor K r (add K child) t)
add K (interval f lo hi next) t = add K next (with_constraint K (record { feature = f; lo = lo; hi = hi }) t)

unfoldable pub normal_form : Vocabulary → Chain → Form
normal_form K p = add K p (bare [])

-- rules 1 and 2: the impossible concept stands somewhere
abbrev pub has_bottom : Chain → Bool
has_bottom end = false
has_bottom (class a next) = has_bottom next
has_bottom (impossible next) = true
has_bottom (some r child next) = has_bottom child || has_bottom next
has_bottom (interval f lo hi next) = has_bottom next

-- rule 7: a ⊑* x, b ⊑* y and disj(x, y) ∈ K
abbrev pub clash : Vocabulary → ℕ → ℕ → Bool
clash K a b = any (λ p. is_below K a p.0 && is_below K b p.1) (disjoint_pairs K)

-- rule 3 at no constraint: none has lo greater than hi
abbrev pub are_non_empty : List Constraint → Bool
are_non_empty l = all (λ s. is_non_empty s.lo s.hi) l

-- rule 7 at no two classes, and at none that is taken twice
abbrev pub compatible : Vocabulary → List ℕ → Bool
compatible K l = all (λ a. all (λ b. not (clash K a b)) l) l

abbrev pub clean_node : Vocabulary → Node → Bool
clean_node K n = are_non_empty n.constraints && compatible K n.classes

abbrev pub clean_successors : Vocabulary → Successors → Bool
clean_successors K none = true
clean_successors K (successor r n under next) = clean_node K n && (clean_successors K under && clean_successors K next)

-- SPECIFICATION 6.4: the term is possible
unfoldable pub possible : Vocabulary → Chain → Bool
possible K p =
    not (has_bottom p) && (clean_node K (normal_form K p).node && clean_successors K (normal_form K p).successors)
