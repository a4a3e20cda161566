-- Laws of the walk over an individual's successors by a role, one after another.
use Prim.Native.Nat.{◌+◌, ◌-◌, ◌<◌, ◌≤◌, suc, zero, ℕ}
use mathlib.Core.Bool.{Bool, ◌&&◌, cond, false, true}
use mathlib.Core.List.{List}
use mathlib.Core.Logic.{◌⊎◌, inl, inr, ⊎_elim}
use mathlib.Core.Path.{◌∙◌, ◌≡◌, ap, refl, subst, sym}
use native.Mathlib.Omega.{arith}
use borrow.Author.Tests.{eq-eqb, eqb-false, eqb-true, ltb-true, ne_eqb}
use lib.Dec.{eqb, ltb}
use Rattle.layout.specs.Combination.{next_successor}
use Rattle.layout.specs.Nesting.{Nested}
use Rattle.layout.specs.Tables.{parent_at, role_at}
use Rattle.layout.specs.declared.Tables.{Tables}
use Rattle.policy.specs.Terms.{conjuncts_at}
use Rattle.subsumption.specs.Tests.{Individual, Testable, has_successor, holds_whole, is_passing}
use Rattle.theory.proofs.Counting.{none_below, some_below}
use Rattle.theory.proofs.Links.{split}
use Rattle.theory.proofs.Rules.{order}

-- ---- the next successor

-- what stands between where it is sought and where it stands has another parent; from a row on whose parent is smaller, all have
module _ {w : List ℕ} {t : Tables} (nest : Nested w t) (x : ℕ) where
  pub next_least : (left j : ℕ) → j ≤ next_successor w x left j
  unfolding next_successor
  next_least zero j = omega arith
  next_least (suc left) j =
      split (λ (i : ℕ). j ≤ i) (ltb (parent_at w j) x) (λ h. omega arith)
      (λ h. split (λ (i : ℕ). j ≤ i) (eqb (parent_at w j) x) (λ d. omega arith) (λ d. omega (arith, next_least left (suc j))))

  pub next_passes : (left j : ℕ) → x ≤ j → j + left ≡ t.individuals → (i : ℕ) → j ≤ i → i < next_successor w x left j → parent_at w i ≡ x → ⊥
  unfolding next_successor
  next_passes zero j own e i a b z = absurd (omega arith)
  next_passes (suc left) j own e i a b z = go (ltb (parent_at w j) x) refl (eqb (parent_at w j) x) refl b (next_passes left (suc j) (omega arith) (omega arith) i)
    where
      go : (s : Bool) → ltb (parent_at w j) x ≡ s → (u : Bool) → eqb (parent_at w j) x ≡ u →
          i < cond s (j + suc left) (cond u j (next_successor w x left (suc j))) →
          (suc j ≤ i → i < next_successor w x left (suc j) → parent_at w i ≡ x → ⊥) → ⊥
      go true es u eu b f = smaller (ltb-true _ _ es) (order j i)
        where
          smaller : parent_at w j < x → (j < i) ⊎ (i ≤ j) → ⊥
          smaller l (inl c) = let k = nest.between j i c (omega arith) (omega arith) in omega arith
          smaller l (inr c) = let d : j ≡ i = omega arith in let p = ap (parent_at w) d in omega arith
      go false es true eu b f = omega arith
      go false es false eu b f = ⊎_elim (λ c. f c b z) (λ c. let d : j ≡ i = omega arith in eqb-false _ _ eu (ap (parent_at w) d ∙ z)) (order j i)

  pub next_parent : (left j : ℕ) → next_successor w x left j < j + left → parent_at w (next_successor w x left j) ≡ x
  unfolding next_successor
  next_parent zero j h = absurd (omega arith)
  next_parent (suc left) j h = go (ltb (parent_at w j) x) refl (eqb (parent_at w j) x) refl h (next_parent left (suc j))
    where
      go : (s : Bool) → ltb (parent_at w j) x ≡ s → (u : Bool) → eqb (parent_at w j) x ≡ u →
          cond s (j + suc left) (cond u j (next_successor w x left (suc j))) < j + suc left →
          (next_successor w x left (suc j) < suc j + left → parent_at w (next_successor w x left (suc j)) ≡ x) →
          parent_at w (cond s (j + suc left) (cond u j (next_successor w x left (suc j)))) ≡ x
      go true es u eu h f = absurd (omega arith)
      go false es true eu h f = eqb-true _ _ eu
      go false es false eu h f = f (omega arith)

-- ---- one after another

abbrev passing : List ℕ → List ℕ → Tables → ℕ → ℕ → ℕ → ℕ → Bool
passing q w t k x r = is_passing w x r (holds_whole w t (conjuncts_at q k))

-- no successor before row j passes
pub record Seeking (q w : List ℕ) (t : Tables) (k x r j : ℕ) : Type 0 where
  pub none : (i : ℕ) → i < j → is_passing w x r (holds_whole w t (conjuncts_at q k)) i ≡ false
  pub own : x ≤ j
  pub here : j < t.individuals → parent_at w j ≡ x

module _ {q w : List ℕ} {t : Tables} {left k x n : ℕ} (r : ℕ) (en : n ≡ t.individuals) (s : Testable q w t left k) where
  -- rows of another parent are passed over
  passed : {i j : ℕ} → x ≤ i → i ≤ n → ((l : ℕ) → l < i → passing q w t k x r l ≡ false) → j ≡ next_successor w x (n - i) i → Seeking q w t k x r j
  passed {i} {j} own few f e = record {
    none = λ l h. ⊎_elim (f l) (λ a. rw (ne_eqb (parent_at w l) x (next_passes s.nested x (n - i) i own (omega arith) l a (rw e at h)))) (order l i);
    own = let a = next_least s.nested x (n - i) i in omega arith;
    here = λ h. ap (parent_at w) e ∙ next_parent s.nested x (n - i) i (omega arith);
  }

  pub walk_starts : {i j : ℕ} → Individual t x → i ≡ x → j ≡ next_successor w x (n - i) i → Seeking q w t k x r j
  walk_starts ind ei ej =
      let few = ind.within in
      let one = ind.some in
      passed (omega arith) (omega arith) (λ l h. rw (ne_eqb (parent_at w l) x (λ z. let b = s.nested.before l (omega arith) in omega arith))) ej

  module _ {j : ℕ} (g : Seeking q w t k x r j) where
    pub walk_ends : {b : Bool} → b ≡ false → n ≤ j → b ≡ has_successor w t.individuals x r (holds_whole w t (conjuncts_at q k))
    unfolding has_successor
    walk_ends z h = z ∙ sym (none_below (passing q w t k x r) t.individuals (λ i l. g.none i (omega arith)))

    -- individual j + 1 stands in row j
    module _ {role : ℕ} (more : j < n) (er : role ≡ role_at w j) where
      c : j + 1 ≡ suc j
      c = omega arith

      pub walk_found : {b one : Bool} → b ≡ true → role ≡ r → one ≡ holds_whole w t (conjuncts_at q k) (j + 1) → one ≡ true →
          b ≡ has_successor w t.individuals x r (holds_whole w t (conjuncts_at q k))
      unfolding has_successor
      walk_found y e f h = y ∙ sym (some_below (passing q w t k x r) t.individuals j (omega arith)
          (rw (eq-eqb (parent_at w j) x (g.here (omega arith)), eq-eqb (role_at w j) r (sym er ∙ e), ← c) (sym f ∙ h)))

      module _ {l : ℕ} (el : l ≡ next_successor w x (n - (j + 1)) (j + 1)) where
        pub walk_falls : n - l < n - j
        walk_falls = let a = next_least s.nested x (n - (j + 1)) (j + 1) in omega arith

        on : passing q w t k x r j ≡ false → Seeking q w t k x r l
        on f =
            passed (let o = g.own in omega arith) (omega arith) (λ i h. ⊎_elim (g.none i) (λ a. let z : j ≡ i = omega arith in subst (λ (m : ℕ). passing q w t k x r m ≡ false) z f) (order i j)) el

        pub walk_other : (role ≡ r → ⊥) → Seeking q w t k x r l
        walk_other h = on (go (eqb (parent_at w j) x))
          where
            go : (b : Bool) → b && (eqb (role_at w j) r && holds_whole w t (conjuncts_at q k) (suc j)) ≡ false
            go true = rw (ne_eqb (role_at w j) r (λ e. h (er ∙ e)))
            go false = refl

        pub walk_past : {one : Bool} → one ≡ holds_whole w t (conjuncts_at q k) (j + 1) → one ≡ false → Seeking q w t k x r l
        walk_past f h = on (go (eqb (parent_at w j) x) (eqb (role_at w j) r))
          where
            go : (a b : Bool) → a && (b && holds_whole w t (conjuncts_at q k) (suc j)) ≡ false
            go true true = rw (← c) (sym f ∙ h)
            go true false = refl
            go false b = refl
