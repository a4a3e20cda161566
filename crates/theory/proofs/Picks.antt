-- A combination has its normal form's shape, with a part of each constraint.
use Prim.Native.Nat.{ℕ}
use mathlib.Core.Bool.{◌&&◌, not}
use mathlib.Core.List.{List, [], ◌∷◌}
use mathlib.Core.Path.{◌∙◌, ◌≡◌, refl, subst, sym}
use lib.Dec.{T, T_not}
use Rattle.meaning.specs.Intervals.{Constraint, NonEmpty, is_non_empty}
use Rattle.meaning.specs.Lists.{All, Any, ◌∈◌, all, cons, nil}
use Rattle.meaning.specs.Normal.{Distinct, Fresh, Normal, NormalNode, NormalSuccessors}
use Rattle.meaning.specs.NormalForm.{Form, Node, Successors, are_non_empty, clash, clean_node, clean_successors, compatible, none}
use Rattle.meaning.specs.NormalForm.{successor}
use Rattle.meaning.specs.Policy.{Policy}
use Rattle.meaning.specs.Records.{Name}
use Rattle.meaning.specs.Splitting.{choices, combinations, constraints_below, constraints_of, split_node, split_successors}
use Rattle.meaning.specs.Stated.{disjoint_pairs, is_below, is_functional_feature, ranges}
use Rattle.meaning.specs.Vocabulary.{Vocabulary}
use Rattle.theory.proofs.Intervals.{is_non_empty_iff}
use Rattle.theory.proofs.Points.{Part, pieces_part}
use Rattle.theory.proofs.Rules.{T_and, all_any, all_append, all_flat_map, all_fst, all_in, all_map, all_mono, all_out}
use Rattle.theory.proofs.Rules.{all_snd, and_T, any_in, at_any, head, tail}

pub data Parts (Q : Policy) : List Constraint → List Constraint → Type 0 where
  no_parts : Parts Q [] []
  parts : {s p : Constraint} {l m : List Constraint} → Part Q s p → Parts Q l m → Parts Q (s ∷ l) (p ∷ m)

pub record PickedNode (Q : Policy) (n m : Node) : Type 0 where
  pub classes : n.classes ≡ m.classes
  pub constraints : Parts Q n.constraints m.constraints

pub data Picked (Q : Policy) : Successors → Successors → Type 0 where
  none_picked : Picked Q none none
  picked : {r : ℕ} {n m : Node} {under inner next more : Successors} →
      PickedNode Q n m → Picked Q under inner → Picked Q next more → Picked Q (successor r n under next) (successor r m inner more)

pub record PickedForm (Q : Policy) (t u : Form) : Type 0 where
  pub node : PickedNode Q t.node u.node
  pub successors : Picked Q t.successors u.successors

-- no constraint of a list is empty
abbrev pub AllNonEmpty : List Constraint → Type 0
AllNonEmpty l = All (λ s. NonEmpty s.lo s.hi) l

choices_parts : (Q : Policy) (l : List Constraint) → AllNonEmpty l → All (Parts Q l) (choices Q l)
choices_parts Q [] h = cons no_parts nil
choices_parts Q (s ∷ l) h =
    all_flat_map _ (all_mono (λ p k. all_map (λ r. p ∷ r) (all_mono (λ r m. parts k m) (choices_parts Q l (tail h)))) (pieces_part Q s (head h)))

node_picked : (Q : Policy) (n : Node) → AllNonEmpty n.constraints → All (PickedNode Q n) (split_node Q n)
node_picked Q n h = all_map (λ r. record { classes = n.classes; constraints = r }) (all_mono (λ r k. record { classes = refl; constraints = k }) (choices_parts Q n.constraints h))

successors_picked : (Q : Policy) (under : Successors) → AllNonEmpty (constraints_below under) → All (Picked Q under) (split_successors Q under)
successors_picked Q none h = cons none_picked nil
successors_picked Q (successor r n under next) h =
    let a = all_snd n.constraints _ h in
    all_flat_map _ (all_mono (λ m x. all_flat_map _ (all_mono (λ bs y. all_map (λ ns. successor r m bs ns) (all_mono (λ ns z. picked x y z)
    (successors_picked Q next (all_snd (constraints_below under) _ a)))) (successors_picked Q under (all_fst (constraints_below under) _ a))))
    (node_picked Q n (all_fst n.constraints _ h)))

-- each combination of a form without an empty constraint has a part of each constraint
pub combinations_picked : (Q : Policy) (t : Form) → AllNonEmpty (constraints_of t) → All (PickedForm Q t) (combinations Q t)
unfolding combinations
combinations_picked Q t h =
    all_flat_map _ (all_mono (λ n x. all_map (λ under. record { node = n; successors = under })
    (all_mono (λ under y. record { node = x; successors = y }) (successors_picked Q t.successors (all_snd t.node.constraints _ h))))
    (node_picked Q t.node (all_fst t.node.constraints _ h)))

-- a clean form has none
pub clean_non_empty : (K : Vocabulary) (n : Node) → T (clean_node K n) → AllNonEmpty n.constraints
clean_non_empty K n t = all_mono (λ s u. (is_non_empty_iff s.lo s.hi).0 u) (all_out (λ s. is_non_empty s.lo s.hi) n.constraints (T_and (are_non_empty n.constraints) (compatible K n.classes) t).0)

clean_non_empty_below : (K : Vocabulary) (under : Successors) → T (clean_successors K under) → AllNonEmpty (constraints_below under)
clean_non_empty_below K none t = nil
clean_non_empty_below K (successor r n under next) t =
    let a = T_and (clean_node K n) _ t in
    let b = T_and (clean_successors K under) _ a.1 in
    all_append (clean_non_empty K n a.0) (all_append (clean_non_empty_below K under b.0) (clean_non_empty_below K next b.1))

pub clean_non_empty_form : (K : Vocabulary) (t : Form) → T (clean_node K t.node) → T (clean_successors K t.successors) → AllNonEmpty (constraints_of t)
clean_non_empty_form K t a b = all_append (clean_non_empty K t.node a) (clean_non_empty_below K t.successors b)

-- a clean individual is in no two disjoint classes
pub no_clash : (K : Vocabulary) (n : Node) → T (clean_node K n) → (a b : ℕ) → (a, b) ∈ disjoint_pairs K → Any (λ c. T (is_below K c a)) n.classes → Any (λ c. T (is_below K c b)) n.classes → ⊥
no_clash K n t a b m p q =
    let u = all_out (λ c. all (λ d. not (clash K c d)) n.classes) n.classes (T_and (are_non_empty n.constraints) (compatible K n.classes) t).1 in
    let x = all_any u p in
    let y = all_any (all_out (λ d. not (clash K x.0 d)) n.classes x.1) q in
    T_not (clash K x.0 y.0) y.1 (any_in (λ p. is_below K x.0 p.0 && is_below K y.0 p.1) (at_any m (and_T (is_below K x.0 a) (is_below K y.0 b) x.2 y.2)))

-- what a pick keeps
module _ {Q : Policy} where
  away_picked : (f : ℕ) {l m : List Constraint} → Parts Q l m → All (λ x. f ≡ x.feature → ⊥) l → All (λ x. f ≡ x.feature → ⊥) m
  away_picked f no_parts h = nil
  away_picked f (parts a b) h = cons (λ q. head h (q ∙ a.inside.same)) (away_picked f b (tail h))

  distinct_picked : (K : Vocabulary) {l m : List Constraint} → Parts Q l m → Distinct K l → Distinct K m
  distinct_picked K no_parts h = tt
  distinct_picked K (parts {s = s} {p = p} {m = m} a b) h =
      let e = a.inside.same in (
        λ t. subst (λ (f : ℕ). All (λ x. f ≡ x.feature → ⊥) m) (sym e) (away_picked s.feature b (h.0 (subst (λ (f : ℕ). T (is_functional_feature K f)) e t))),
        distinct_picked K b h.1,
      )

  fresh_picked : (r : ℕ) {under inner : Successors} → Picked Q under inner → Fresh r under → Fresh r inner
  fresh_picked r none_picked h = tt
  fresh_picked r (picked a b c) h = (h.0, fresh_picked r c h.1)

  module _ (K : Vocabulary) where
    normal_node : (n m : Node) → PickedNode Q n m → NormalNode (Name K.classes) K n → NormalNode (Name K.classes) K m
    normal_node n m p h = record { bounded = subst (All (Name K.classes)) p.classes h.bounded; distinct = distinct_picked K p.constraints h.distinct }

    normal_picked : {under inner : Successors} → Picked Q under inner → NormalSuccessors (Name K.classes) K under → NormalSuccessors (Name K.classes) K inner
    normal_picked none_picked h = tt
    normal_picked (picked {r = r} {n = n} {m = m} a b c) h = (
      λ t. fresh_picked r c (h.0 t),
      subst (λ (l : List ℕ). All (λ c. c ∈ l) (ranges K r)) a.classes h.1,
      normal_node n m a h.2,
      normal_picked b h.3,
      normal_picked c h.4,
    )

    non_empty_picked : {l m : List Constraint} → Parts Q l m → All (λ s. T (is_non_empty s.lo s.hi)) m
    non_empty_picked no_parts = nil
    non_empty_picked (parts {p = p} a b) = cons ((is_non_empty_iff p.lo p.hi).1 a.inside.non_empty) (non_empty_picked b)

    clean_node_lem : (n m : Node) → PickedNode Q n m → T (clean_node K n) → T (clean_node K m)
    clean_node_lem n m p t =
        and_T (are_non_empty m.constraints) (compatible K m.classes) (all_in (λ s. is_non_empty s.lo s.hi) (non_empty_picked p.constraints))
        (subst (λ (l : List ℕ). T (compatible K l)) p.classes (T_and (are_non_empty n.constraints) (compatible K n.classes) t).1)

    clean_picked : {under inner : Successors} → Picked Q under inner → T (clean_successors K under) → T (clean_successors K inner)
    clean_picked none_picked t = tt
    clean_picked (picked {n = n} {m = m} {under = under} {inner = inner} a b c) t =
        let u = T_and (clean_node K n) _ t in
        let v = T_and (clean_successors K under) _ u.1 in
        and_T (clean_node K m) _ (clean_node_lem n m a u.0) (and_T (clean_successors K inner) _ (clean_picked b v.0) (clean_picked c v.1))

-- a form to be modelled: normal, with no clash at any individual
pub record Consistent (K : Vocabulary) (t : Form) : Type 0 where
  pub normal : Normal (Name K.classes) K t
  pub clean : T (clean_node K t.node)
  pub clean_successors_lem : T (clean_successors K t.successors)

pub consistent_picked : {Q : Policy} (K : Vocabulary) (t u : Form) → PickedForm Q t u → Consistent K t → Consistent K u
consistent_picked K t u p r = record {
  normal = record {
    node = normal_node K t.node u.node p.node r.normal.node;
    successors = normal_picked K p.successors r.normal.successors;
  };
  clean = clean_node_lem K t.node u.node p.node r.clean;
  clean_successors_lem = clean_picked K p.successors r.clean_successors_lem;
}
