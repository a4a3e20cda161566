-- Each individual of the canonical model stands at one place of its form: a map from numbers to places that makes every fact true.
use Prim.Native.Nat.{◌+◌, ◌<◌, suc, ℕ}
use mathlib.Core.Bool.{Bool, cond, false, true}
use mathlib.Core.List.{map}
use mathlib.Core.Logic.{◌⊎◌, inl, inr}
use mathlib.Core.Path.{◌∙◌, ◌≡◌, ap, refl, subst, sym}
use lib.Dec.{T, eqb, eqb_refl, eqb→eq}
use native.Mathlib.Omega.{arith}
use Rattle.meaning.specs.Countermodel.{canonical_model, classes_above, edges, pairs, records_below, size}
use Rattle.meaning.specs.Intervals.{value_of}
use Rattle.meaning.specs.Lists.{All, Any, any, cons, counting, nil}
use Rattle.meaning.specs.Model.{Fact, edge, member, value}
use Rattle.meaning.specs.Normal.{NormalSuccessors}
use Rattle.meaning.specs.NormalForm.{Form, Node, Successors, clean_node, clean_successors, none, successor}
use Rattle.meaning.specs.Records.{Name}
use Rattle.meaning.specs.Stated.{is_below}
use Rattle.meaning.specs.Vocabulary.{Vocabulary}
use Rattle.theory.proofs.Pairs.{pairs_in_lem}
use Rattle.theory.proofs.Picks.{Consistent}
use Rattle.theory.proofs.Rules.{T_and, all_append, all_filter, all_map, all_mono, all_of, any_mono, any_out}

module _ {X : Type 0} where
  -- h, with x at k
  put : ℕ → X → (ℕ → X) → ℕ → X
  put k x h j = cond (eqb j k) x (h j)

  put_same : (k : ℕ) (x : X) (h : ℕ → X) → put k x h k ≡ x
  unfolding put
  put_same k x h = go (eqb k k) (eqb_refl k)
    where
      go : (b : Bool) → T b → cond b x (h k) ≡ x
      go true t = refl
      go false t = absurd t

  put_other : (k : ℕ) (x : X) (h : ℕ → X) (j : ℕ) → j < k → put k x h j ≡ h j
  unfolding put
  put_other k x h j a = go (eqb j k) (λ t. eqb→eq j k t)
    where
      go : (b : Bool) → (T b → j ≡ k) → cond b x (h j) ≡ h j
      go true f = let q = f tt in absurd (omega arith)
      go false f = refl

-- an individual with those below it, which have the numbers from start on
pub record Place (K : Vocabulary) : Type 0 where
  pub node : Node
  pub successors : Successors
  pub start : ℕ
  pub ready : Consistent K (record { node = node; successors = successors })

module _ (K : Vocabulary) where
  -- y, with the number j, is a successor by r
  abbrev pub Child : ℕ → ℕ → Place K → Successors → ℕ → Type 0
  Child r j y none s = ⊥
  Child r j y (successor q n under next) s =
      ((r ≡ q) × (j ≡ s) × (y.node ≡ n) × (y.successors ≡ under)) ⊎ Child r j y next (suc s + size under)

  -- the fact is true where the places are h's
  abbrev pub True : (ℕ → Place K) → Fact → Type 0
  True h (member a i) = Any (λ c. T (is_below K c a)) (h i).node.classes
  True h (edge r i j) = Child r j (h j) (h i).successors (h i).start
  True h (value f i v) = Any (λ s. (f ≡ s.feature) × (v ≡ value_of s)) (h i).node.constraints

  members_true : (h : ℕ → Place K) (i : ℕ) (n : Node) → (h i).node ≡ n → All (True h) (map (λ c. member c i) (classes_above K n))
  members_true h i n e =
      all_map (λ c. member c i) (all_mono (λ a t. subst (λ (m : Node). Any (λ c. T (is_below K c a)) m.classes) (sym e) (any_out (λ c. is_below K c a) n.classes t))
      (all_filter (λ b. any (λ c. is_below K c b) n.classes) (counting 1 K.classes)))

  values_true : (h : ℕ → Place K) (i : ℕ) (n : Node) → (h i).node ≡ n → All (True h) (map (λ s. value s.feature i (value_of s)) (pairs n.constraints))
  values_true h i n e =
      all_map (λ s. value s.feature i (value_of s)) (pairs_in_lem (λ f v. Any (λ s. (f ≡ s.feature) × (v ≡ value_of s)) (h i).node.constraints) n.constraints
      (all_of n.constraints (λ s m. subst (λ (z : Node). Any (λ x. (s.feature ≡ x.feature) × (value_of s ≡ value_of x)) z.constraints) (sym e)
      (any_mono (λ x q. (ap (λ y. y.feature) q, ap value_of q)) m))))

  -- places for the numbers from k on, over those before: whatever agrees with them makes the facts true
  record Extends (under : Successors) (i k : ℕ) (h : ℕ → Place K) : Type 0 where
    to : ℕ → Place K
    keeps : (j : ℕ) → j < k → to j ≡ h j
    true_for : (g : ℕ → Place K) → ((j : ℕ) → j < k + size under → g j ≡ to j) → All (True g) (edges under i k) × All (True g) (records_below K under k)

  extend : (under : Successors) (i k : ℕ) (h : ℕ → Place K) → i < k → NormalSuccessors (Name K.classes) K under → T (clean_successors K under) →
      ((r j : ℕ) (y : Place K) → Child r j y under k → Child r j y (h i).successors (h i).start) → Extends under i k h
  extend none i k h a b c f = record { to = h; keeps = λ j d. refl; true_for = λ g d. (nil, nil) }
  extend (successor r n under next) i k h a b c f =
      let u = T_and (clean_node K n) _ c in
      let v = T_and (clean_successors K under) _ u.1 in
      let y : Place K = record {
        node = n;
        successors = under;
        start = suc k;
        ready = record { normal = record { node = b.2; successors = b.3 }; clean = u.0; clean_successors_lem = v.0 };
      } in
      let h₁ = put k y h in
      let at-k : h₁ k ≡ y = put_same k y h in
      let A = extend under k (suc k) h₁ (omega arith) b.3 v.0 (λ q j z d. subst (λ (x : Place K). Child q j z x.successors x.start) (sym at-k) d) in
      let at_i : A.to i ≡ h i = A.keeps i (omega arith) ∙ put_other k y h i a in
      let B = extend next i (suc k + size under) A.to (omega arith) b.4 v.1
      (λ q j z d. subst (λ (x : Place K). Child q j z x.successors x.start) (sym at_i) (f q j z (inr d))) in
      record {
        to = B.to;
        keeps = λ j d. B.keeps j (omega arith) ∙ (A.keeps j (omega arith) ∙ put_other k y h j d);
        true_for = λ g d.
            let g-i : g i ≡ h i = d i (omega arith) ∙ (B.keeps i (omega arith) ∙ at_i) in
            let g-k : g k ≡ y = d k (omega arith) ∙ (B.keeps k (omega arith) ∙ (A.keeps k (omega arith) ∙ at-k)) in
            let e = A.true_for g (λ j m. d j (omega arith) ∙ B.keeps j m) in
            let o = B.true_for g (λ j m. d j (omega arith)) in
            let x : Child r k (g k) (h i).successors (h i).start = f r k (g k) (inl (refl, refl, ap (λ z. z.node) g-k, ap (λ z. z.successors) g-k)) in (
              cons (subst (λ (z : Place K). Child r k (g k) z.successors z.start) (sym g-i) x) o.0,
              all_append (all_append (members_true g k n (ap (λ z. z.node) g-k)) (all_append (values_true g k n (ap (λ z. z.node) g-k)) e.0))
                  (all_append e.1 o.1),
            );
      }

  abbrev pub root : (t : Form) → Consistent K t → Place K
  root t r = record { node = t.node; successors = t.successors; start = 2; ready = r }

  -- individual 1 stands at the root
  pub places : (t : Form) (r : Consistent K t) → (h : ℕ → Place K) × (h 1 ≡ root t r) × All (True h) (canonical_model K t)
  unfolding canonical_model
  places t r =
      let A = extend t.successors 1 2 (λ j. root t r) (omega arith) r.normal.successors r.clean_successors_lem (λ q j y c. c) in
      let at_1 : A.to 1 ≡ root t r = A.keeps 1 (omega arith) in
      let m : (A.to 1).node ≡ t.node = ap (λ z. z.node) at_1 in
      let d = A.true_for A.to (λ j c. refl) in
      (A.to, at_1, all_append (all_append (members_true A.to 1 t.node m) (all_append (values_true A.to 1 t.node m) d.0)) d.1)
