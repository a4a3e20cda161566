-- The names of a spelling are those of the policy and of the roles' ranges: of the vocabulary's series.
use Prim.Native.Nat.{ℕ}
use mathlib.Core.Bool.{Bool, ◌&&◌, cond, false, true}
use mathlib.Core.List.{List, [], ◌∷◌}
use mathlib.Core.Path.{◌≡◌, subst, sym}
use lib.Dec.{eqb}
use Rattle.meaning.specs.Accepted.{ChainOf, NamedChain}
use Rattle.meaning.specs.Intervals.{Constraint, meet}
use Rattle.meaning.specs.Lists.{All, ◌∈◌, cons, nil}
use Rattle.meaning.specs.NormalForm.{Form, Node, Successors, add, bare, graft, none, normal_form, place_constraint, place_successor, successor}
use Rattle.meaning.specs.NormalForm.{with_class, with_constraint, with_successor}
use Rattle.meaning.specs.Policy.{Chain, class, end, impossible, interval, policy_of, policy_refusal, some}
use Rattle.meaning.specs.Records.{Name}
use Rattle.meaning.specs.Stated.{is_functional_feature, is_functional_role, ranges}
use Rattle.meaning.specs.Vocabulary.{Vocabulary, class_count, feature_count, role_count, vocabulary_of, vocabulary_refusal}
use Rattle.spelling.proofs.Equal.{term_of}
use Rattle.spelling.proofs.Keys.{key_apart}
use Rattle.spelling.proofs.Rising.{sorted_same}
use Rattle.spelling.specs.Order.{sorted}
use Rattle.spelling.specs.Spelling.{Conjunct, conjuncts_of, is_in, key, put_all, put_in_order, reaches, roles_of, spelled, spelled_term}
use Rattle.spelling.specs.Spelling.{spelling, stated, within, within_of}
use Rattle.theory.proofs.Rules.{all_append, all_at, all_map, all_of, head, tail}
use Rattle.theory.proofs.Defaults.{accepted_stated}
use Rattle.theory.proofs.Stated.{all_stated}
use Rattle.theory.proofs.Wellformed.{accepted_terms}

module _ (N R F : ℕ) where
  pub record NamedNode (n : Node) : Type 0 where
    pub classes : All (Name N) n.classes
    pub constraints : All (λ s. Name F s.feature) n.constraints

  abbrev pub NamedBelow : Successors → Type 0
  NamedBelow none = Unit {0}
  NamedBelow (successor r n under next) = Name R r × NamedNode n × NamedBelow under × NamedBelow next

  pub record NamedForm (t : Form) : Type 0 where
    pub node : NamedNode t.node
    pub successors : NamedBelow t.successors

  -- ---- a normal form

  constraint_named : (b : Bool) (s : Constraint) → Name F s.feature → (l : List Constraint) → All (λ x. Name F x.feature) l →
      All (λ x. Name F x.feature) (place_constraint b s l)
  constraint_named b s n [] h = cons {x = s} n nil
  constraint_named b s n (t ∷ l) h = go (b && eqb t.feature s.feature) (constraint_named b s n l (tail h))
    where
      go : (z : Bool) → All (λ x. Name F x.feature) (place_constraint b s l) →
          All (λ x. Name F x.feature) (cond z (meet t s ∷ l) (t ∷ place_constraint b s l))
      go true r = cons {x = meet t s} (head h) (tail h)
      go false r = cons {x = t} (head h) r

  place_named : (b : Bool) (r : ℕ) (fresh : Form) (grow : Form → Form) → Name R r → NamedForm fresh → ((t : Form) → NamedForm t → NamedForm (grow t)) →
      (ks : Successors) → NamedBelow ks → NamedBelow (place_successor b r fresh grow ks)
  place_named b r fresh grow n f g none h = let t = g fresh f in (n, t.node, t.successors, tt)
  place_named b r fresh grow n f g (successor q m under next) h = go (b && eqb r q) (place_named b r fresh grow n f g next h.3)
    where
      go : (z : Bool) → NamedBelow (place_successor b r fresh grow next) →
          NamedBelow (cond z (graft q (grow (record { node = m; successors = under })) next) (successor q m under (place_successor b r fresh grow next)))
      go true k = let t = g (record { node = m; successors = under }) (record { node = h.1; successors = h.2 }) in (h.0, t.node, t.successors, h.3)
      go false k = (h.0, h.1, h.2, k)

  module _ (K : Vocabulary) (ranged : (r c : ℕ) → c ∈ ranges K r → Name N c) where
    add_named : (c : Chain) → NamedChain N R F c → (t : Form) → NamedForm t → NamedForm (add K c t)
    add_named end n t h = h
    add_named (class a next) n t h =
        add_named next n.1 (with_class a t)
        (record { node = record { classes = cons n.0 h.node.classes; constraints = h.node.constraints }; successors = h.successors })
    add_named (impossible next) n t h = add_named next n t h
    add_named (some r child next) n t h =
        add_named next n.2 (with_successor K r (add K child) t) (record {
          node = h.node;
          successors = place_named (is_functional_role K r) r (bare (ranges K r)) (add K child) n.0
              (record { node = record { classes = all_of (ranges K r) (λ c m. ranged r c m); constraints = nil }; successors = tt })
              (add_named child n.1) t.successors h.successors;
        })
    add_named (interval f lo hi next) n t h =
        let s : Constraint = record { feature = f; lo = lo; hi = hi } in
        add_named next n.1 (with_constraint K s t) (record {
          node = record {
            classes = h.node.classes;
            constraints = constraint_named (is_functional_feature K f) s n.0 t.node.constraints
                h.node.constraints;
          };
          successors = h.successors;
        })

  -- ---- its spelling

  abbrev NamedOne : Conjunct → Type 0
  NamedOne (is_in a) = Name N a
  NamedOne (within f lo hi) = Name F f
  NamedOne (reaches r c) = Name R r × NamedChain N R F c

  put_all_named : (l : List Conjunct) → All NamedOne l → NamedChain N R F (put_all l)
  put_all_named [] h = tt
  put_all_named (is_in a ∷ l) h = (head h, put_all_named l (tail h))
  put_all_named (within f lo hi ∷ l) h = (head h, put_all_named l (tail h))
  put_all_named (reaches r c ∷ l) h = ((head h).0, (head h).1, put_all_named l (tail h))

  put_in_order_named : (l : List Conjunct) → All NamedOne l → NamedChain N R F (put_in_order l)
  put_in_order_named l h = put_all_named (sorted key l) (all_of (sorted key l) (λ x m. all_at h ((sorted_same key key_apart l x).1 m)))

  stated_named : (n : Node) (l : List Conjunct) → NamedNode n → All NamedOne l → All NamedOne (stated n l)
  stated_named n l h k = all_append (all_map is_in h.classes) (all_append (all_map within_of h.constraints) k)

  roles_named : (ks : Successors) → NamedBelow ks → All NamedOne (roles_of ks)
  roles_named none h = nil
  roles_named (successor r n under next) h =
      cons {x = reaches r (put_in_order (stated n (roles_of under)))}
      (h.0, put_in_order_named (stated n (roles_of under)) (stated_named n (roles_of under) h.1 (roles_named under h.2))) (roles_named next h.3)

  pub term_named : (K : Vocabulary) → ((r c : ℕ) → c ∈ ranges K r → Name N c) → (p : Chain) → NamedChain N R F p → NamedChain N R F (spelled_term K p)
  unfolding spelled_term spelling normal_form
  term_named K ranged p n =
      let h = add_named K ranged p n (bare []) (record { node = record { classes = nil; constraints = nil }; successors = tt }) in
      put_in_order_named (conjuncts_of (normal_form K p))
      (stated_named (normal_form K p).node (roles_of (normal_form K p).successors) h.node (roles_named (normal_form K p).successors h.successors))

-- of an accepted policy
pub spelled_named : (v p : List ℕ) → vocabulary_refusal v ≡ 0 → policy_refusal v p ≡ 0 → All (ChainOf v) (spelled (vocabulary_of v) (policy_of p))
spelled_named v p a b =
    all_of (spelled (vocabulary_of v) (policy_of p)) (λ c m.
    let t = term_of (vocabulary_of v) (policy_of p) c m in
    subst (ChainOf v) (sym t.3)
    (term_named (class_count v) (role_count v) (feature_count v) (vocabulary_of v)
    (λ r c m. ((all_stated (vocabulary_of v) (accepted_stated v a)).ranged r c m).1) t.0 (all_at (accepted_terms v p b) t.1)))
