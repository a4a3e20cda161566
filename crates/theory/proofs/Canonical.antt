-- Lemma 1: the canonical model of a combination satisfies the vocabulary, and individual 1 is in the normal form that was split.
use Prim.Native.Nat.{◌+◌, ◌≤◌, suc, ℕ}
use mathlib.Core.List.{List, [], ◌∷◌, map}
use mathlib.Core.Logic.{◌⊎◌, inl, inr}
use mathlib.Core.Path.{◌∙◌, ◌≡◌, subst, sym}
use lib.Dec.{T}
use native.Mathlib.Omega.{arith}
use Rattle.meaning.specs.Countermodel.{canonical_model, classes_above, edges, individuals, pairs, records_below, records_of, size}
use Rattle.meaning.specs.Interpretation.{Proper, Satisfies}
use Rattle.meaning.specs.Intervals.{Constraint, value_of}
use Rattle.meaning.specs.Lists.{All, Any, ◌∈◌, any, cons, counting, nil}
use Rattle.meaning.specs.Model.{Fact, edge, member, stands, value}
use Rattle.meaning.specs.Normal.{Bounded, Distinct, Fresh, NormalSuccessors}
use Rattle.meaning.specs.NormalForm.{Form, Node, Successors, none, successor}
use Rattle.meaning.specs.Policy.{Policy}
use Rattle.meaning.specs.Records.{Name}
use Rattle.meaning.specs.Stated.{is_below, is_functional_feature, is_functional_role, ranges}
use Rattle.meaning.specs.Vocabulary.{Vocabulary}
use Rattle.theory.proofs.Closure.{below_bounded, below_refl, below_subclass, below_trans}
use Rattle.theory.proofs.Counting.{in_counting}
use Rattle.theory.proofs.Forms.{Has, HoldsForm, HoldsNode, HoldsSuccessors}
use Rattle.theory.proofs.Intervals.{inside_within, value_within_lem}
use Rattle.theory.proofs.Pairs.{pairs_out}
use Rattle.theory.proofs.Picks.{Parts, Picked, PickedForm, PickedNode, Consistent, no_clash, no_parts, none_picked, parts}
use Rattle.theory.proofs.Picks.{picked}
use Rattle.theory.proofs.Places.{Child, Place, True, places, root}
use Rattle.theory.proofs.Rules.{all_any, all_append, all_at, all_filter, all_fst, all_map, all_mono, all_of, all_snd}
use Rattle.theory.proofs.Rules.{any_cases, any_in, any_none, any_out, at_any, head, in_filter, map_all, tail}
use Rattle.theory.proofs.Stated.{stated_all}

-- the individuals are 1 to n
abbrev Numbered : ℕ → Fact → Type 0
Numbered n (member a i) = (1 ≤ i) × (i ≤ n)
Numbered n (edge r i j) = ((1 ≤ i) × (i ≤ n)) × ((1 ≤ j) × (j ≤ n))
Numbered n (value f i v) = (1 ≤ i) × (i ≤ n)

module _ (K : Vocabulary) (m : ℕ) where
  edges_numbered : (under : Successors) (i k : ℕ) → 1 ≤ i → i ≤ m → 1 ≤ k → k + size under ≤ suc m → All (Numbered m) (edges under i k)
  edges_numbered none i k a b c d = nil
  edges_numbered (successor r n under next) i k a b c d =
      cons {x = edge r i k} ((a, b), (c, omega arith)) (edges_numbered next i (suc k + size under) a b (omega arith) (omega arith))

  node_numbered : (n : Node) (under : Successors) (i : ℕ) → 1 ≤ i → suc i + size under ≤ suc m → All (Numbered m) (records_of K n under i)
  node_numbered n under i a b =
      all_append (all_map (λ c. member c i) (all_of (classes_above K n) (λ c x. (a, omega arith))))
      (all_append (all_map (λ s. value s.feature i (value_of s)) (all_of (pairs n.constraints) (λ s x. (a, omega arith))))
      (edges_numbered under i (suc i) a (omega arith) (omega arith) b))

  below_numbered : (under : Successors) (k : ℕ) → 1 ≤ k → k + size under ≤ suc m → All (Numbered m) (records_below K under k)
  below_numbered none k a b = nil
  below_numbered (successor r n under next) k a b =
      all_append (node_numbered n under k a (omega arith))
      (all_append (below_numbered under (suc k) (omega arith) (omega arith)) (below_numbered next (suc k + size under) (omega arith) (omega arith)))

pub model_proper : (K : Vocabulary) (t : Form) → Proper (stands (individuals t) (canonical_model K t))
unfolding canonical_model
model_proper K t = record {
  inhabited = (1, (omega arith, omega arith));
  classes = λ a i m. all_at numbered m;
  sources = λ r i j m. (all_at numbered m).0;
  targets = λ r i j m. (all_at numbered m).1;
  holders = λ f i v m. all_at numbered m;
}
  where
    numbered : All (Numbered (individuals t)) (canonical_model K t)
    numbered =
        all_append (node_numbered K (individuals t) t.node t.successors 1 (omega arith) (omega arith))
        (below_numbered K (individuals t) t.successors 2 (omega arith) (omega arith))

-- the classes of an individual, closed upward, are there, and its values
module _ (K : Vocabulary) (w : Bounded K) (F : List Fact) where
  abbrev There : List Fact → Type 0
  There l = All (λ x. x ∈ F) l

  pub node_classes : (n : Node) (under : Successors) (i : ℕ) → All (Name K.classes) n.classes → There (records_of K n under i) →
      All (λ c. (b : ℕ) → T (is_below K c b) → member b i ∈ F) n.classes
  node_classes n under i s h =
      all_of n.classes (λ c m b t.
      let d = below_bounded K w c b (all_at s m) t in
      all_at (map_all (λ a. member a i) (classes_above K n) (all_fst (map (λ a. member a i) (classes_above K n)) _ h))
      (in_filter (λ a. any (λ e. is_below K e a) n.classes) (in_counting 1 K.classes b d.0 (omega arith)) (any_in (λ e. is_below K e b) (at_any m t))))

  pub node_values : (n : Node) (under : Successors) (i : ℕ) → There (records_of K n under i) → All (λ s. value s.feature i (value_of s) ∈ F) n.constraints
  node_values n under i h =
      pairs_out (λ f v. value f i v ∈ F) n.constraints
      (map_all (λ s. value s.feature i (value_of s)) (pairs n.constraints)
      (all_fst (map (λ s. value s.feature i (value_of s)) (pairs n.constraints)) _ (all_snd (map (λ a. member a i) (classes_above K n)) _ h)))

  pub node_edges : (n : Node) (under : Successors) (i : ℕ) → There (records_of K n under i) → There (edges under i (suc i))
  node_edges n under i h =
      all_snd (map (λ s. value s.feature i (value_of s)) (pairs n.constraints)) _ (all_snd (map (λ a. member a i) (classes_above K n)) _ h)

  -- classes are closed upward, and the value of a role is in its ranges
  abbrev Closed : Fact → Type 0
  Closed (member a i) = (b : ℕ) → T (is_below K a b) → member b i ∈ F
  Closed (edge r i j) = All (λ c. member c j ∈ F) (ranges K r)
  Closed (value f i v) = Unit {0}

  node_closed : (n : Node) (under : Successors) (i : ℕ) → All (Name K.classes) n.classes → There (records_of K n under i) → All Closed (edges under i (suc i)) →
      All Closed (records_of K n under i)
  node_closed n under i s h e =
      all_append (all_map (λ a. member a i) (all_mono (λ a t b u. up a b (any_out (λ c. is_below K c a) n.classes t) u) (all_filter (λ a. any (λ c. is_below K c a) n.classes) (counting 1 K.classes))))
      (all_append (all_map (λ s. value s.feature i (value_of s)) (all_of (pairs n.constraints) (λ s m. tt))) e)
    where
      up : (a b : ℕ) → Any (λ c. T (is_below K c a)) n.classes → T (is_below K a b) → member b i ∈ F
      up a b t u = let x = all_any (node_classes n under i s h) t in x.1 b (below_trans K x.0 a b x.2 u)

  below_closed : (under : Successors) (i k : ℕ) → NormalSuccessors (Name K.classes) K under → There (records_below K under k) → All Closed (edges under i k) × All Closed (records_below K under k)
  below_closed none i k t h = (nil, nil)
  below_closed (successor r n under next) i k t h =
      let a = all_fst (records_of K n under k) _ h in
      let b = all_snd (records_of K n under k) _ h in
      let c = below_closed under k (suc k) t.3 (all_fst (records_below K under (suc k)) _ b) in
      let d = below_closed next i (suc k + size under) t.4 (all_snd (records_below K under (suc k)) _ b) in (
        cons (all_mono (λ x m. all_at (node_classes n under k t.2.bounded a) m x (below_refl K x)) t.1) d.0,
        all_append (node_closed n under k t.2.bounded a c.0) (all_append c.1 d.1),
      )

  -- a picked individual holds what the one that was split holds
  parts_hold : {Q : Policy} (m i : ℕ) {l k : List Constraint} → Parts Q l k → All (λ s. value s.feature i (value_of s) ∈ F) k → All (Has (stands m F) i) l
  parts_hold m i no_parts h = nil
  parts_hold m i (parts {s = s} {p = p} a b) h =
      cons {x = s} (value_of p, subst (λ (z : ℕ). value z i (value_of p) ∈ F) a.inside.same (head h), inside_within s.lo s.hi p.lo p.hi (value_of p) a.inside.inside (value_within_lem p a.inside.non_empty)) (parts_hold m i b (tail h))

  node_holds : {Q : Policy} (m : ℕ) (n u : Node) (under : Successors) (i : ℕ) → All (Name K.classes) u.classes → PickedNode Q n u → There (records_of K u under i) → HoldsNode (stands m F) n i
  node_holds m n u under i s p h = record {
    classes = subst (λ (l : List ℕ). All (λ c. member c i ∈ F) l) (sym p.classes) (all_mono (λ c f. f c (below_refl K c)) (node_classes u under i s h));
    constraints = parts_hold m i p.constraints (node_values u under i h);
  }

  successors_hold : {Q : Policy} (m : ℕ) {under inner : Successors} (i k : ℕ) → Picked Q under inner → NormalSuccessors (Name K.classes) K inner →
      There (edges inner i k) → There (records_below K inner k) → HoldsSuccessors (stands m F) under i
  successors_hold m i k none_picked t e h = tt
  successors_hold m i k (picked {n = n} {m = u} {inner = inner} a b c) t e h =
      let x = all_fst (records_of K u inner k) _ h in
      let y = all_snd (records_of K u inner k) _ h in (
        (k, head e, node_holds m n u inner k t.2.bounded a x, successors_hold m k (suc k) b t.3 (node_edges u inner k x) (all_fst (records_below K inner (suc k)) _ y)),
        successors_hold m i (suc k + size inner) c t.4 (tail e) (all_snd (records_below K inner (suc k)) _ y),
      )

-- one value of a functional role, and of a functional feature, at one place
module _ (K : Vocabulary) where
  not_child : (r j : ℕ) (y : Place K) (under : Successors) (s : ℕ) → Fresh r under → Child K r j y under s → ⊥
  not_child r j y none s f c = c
  not_child r j y (successor q n under next) s f (inl c) = f.0 c.0
  not_child r j y (successor q n under next) s f (inr c) = not_child r j y next (suc s + size under) f.1 c

  one_child : (r j k : ℕ) (y z : Place K) (under : Successors) (s : ℕ) → NormalSuccessors (Name K.classes) K under → T (is_functional_role K r) → Child K r j y under s → Child K r k z under s → j ≡ k
  one_child r j k y z none s t u a b = absurd a
  one_child r j k y z (successor q n under next) s t u (inl a) (inl b) = a.1 ∙ sym b.1
  one_child r j k y z (successor q n under next) s t u (inl a) (inr b) =
      absurd (not_child r k z next (suc s + size under) (subst (λ (x : ℕ). Fresh x next) (sym a.0) (t.0 (subst (λ (x : ℕ). T (is_functional_role K x)) a.0 u))) b)
  one_child r j k y z (successor q n under next) s t u (inr a) (inl b) =
      absurd (not_child r j y next (suc s + size under) (subst (λ (x : ℕ). Fresh x next) (sym b.0) (t.0 (subst (λ (x : ℕ). T (is_functional_role K x)) b.0 u))) a)
  one_child r j k y z (successor q n under next) s t u (inr a) (inr b) = one_child r j k y z next (suc s + size under) t.4 u a b

  -- a piece of f with the value v
  abbrev Valued : ℕ → ℕ → Constraint → Type 0
  Valued f v s = (f ≡ s.feature) × (v ≡ value_of s)

  one_value : (f v w : ℕ) (l : List Constraint) → Distinct K l → T (is_functional_feature K f) → Any (Valued f v) l → Any (Valued f w) l → v ≡ w
  one_value f v w [] d u a b = absurd (any_none a)
  one_value f v w (s ∷ l) d u a b = go (one_value f v w l d.1 u) (any_cases a) (any_cases b)
    where
      gone : (x : ℕ) → f ≡ s.feature → Any (Valued f x) l → ⊥
      gone x e k =
          let a = all_any (d.0 (subst (λ (z : ℕ). T (is_functional_feature K z)) e u)) k in
          a.1 (sym e ∙ a.2.0)

      go : (Any (Valued f v) l → Any (Valued f w) l → v ≡ w) → Valued f v s ⊎ Any (Valued f v) l → Valued f w s ⊎ Any (Valued f w) l → v ≡ w
      go ih (inl p) (inl q) = p.1 ∙ sym q.1
      go ih (inl p) (inr q) = absurd (gone w p.0 q)
      go ih (inr p) (inl q) = absurd (gone v q.0 p)
      go ih (inr p) (inr q) = ih p q

module _ (K : Vocabulary) (w : Bounded K) (u : Form) (r : Consistent K u) where
  F : List Fact
  F = canonical_model K u

  every : All (λ x. x ∈ F) F
  every = all_of F (λ x m. m)

  node_there : All (λ x. x ∈ F) (records_of K u.node u.successors 1)
  unfolding F canonical_model
  node_there = all_fst (records_of K u.node u.successors 1) _ every

  below_there : All (λ x. x ∈ F) (records_below K u.successors 2)
  unfolding F canonical_model
  below_there = all_snd (records_of K u.node u.successors 1) _ every

  -- a. it satisfies the vocabulary
  pub satisfied : Satisfies (stands (individuals u) (canonical_model K u)) K
  unfolding F canonical_model
  satisfied = record {
    obeyed = stated_all K (record {
      subclass = λ a b m i p. all_at closed p b (below_subclass K a b m);
      apart = λ a b m i p q. no_clash K (at.0 i).node (at.0 i).ready.clean a b m (all_at at.2 p) (all_at at.2 q);
      role = λ q t i j k x y.
          one_child K q j k (at.0 j) (at.0 k) (at.0 i).successors (at.0 i).start (at.0 i).ready.normal.successors t (all_at at.2 x) (all_at at.2 y);
      feature = λ f t i v z x y.
          one_value K f v z (at.0 i).node.constraints (at.0 i).ready.normal.node.distinct t (all_at at.2 x) (all_at at.2 y);
      ranged = λ q c m i j x. all_at (all_at closed x) m;
      many_role = λ q t. tt;
      many_feature = λ f t. tt;
    });
  }
    where
      under : All (Closed K w F) (edges u.successors 1 2) × All (Closed K w F) (records_below K u.successors 2)
      under = below_closed K w F u.successors 1 2 r.normal.successors below_there

      closed : All (Closed K w F) F
      closed = all_append (node_closed K w F u.node u.successors 1 r.normal.node.bounded node_there under.0) under.1

      at : (h : ℕ → Place K) × (h 1 ≡ root K u r) × All (True K h) F
      at = places K u r

  -- b. individual 1 is in the form of which u is a combination
  pub formed : {Q : Policy} (t : Form) → PickedForm Q t u → HoldsForm (stands (individuals u) (canonical_model K u)) t 1
  unfolding F
  formed t p = record {
    node = node_holds K w F (individuals u) t.node u.node u.successors 1 r.normal.node.bounded p.node node_there;
    successors = successors_hold K w F (individuals u) 1 2 p.successors r.normal.successors (node_edges K w F u.node u.successors 1 node_there) below_there;
  }
