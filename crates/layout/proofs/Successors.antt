-- Laws of the walk over an individual's successors.
use Prim.Native.Nat.{◌+◌, ◌-◌, ◌<◌, ◌≤◌, suc, ℕ}
use mathlib.Core.List.{List}
use mathlib.Core.Logic.{◌⊎◌, inl, inr}
use mathlib.Core.Path.{◌≡◌, ap, subst}
use native.Mathlib.Omega.{arith}
use borrow.Author.Tests.{eq-eqb, le-ltb, lt-ltb, ne_eqb}
use Rattle.layout.specs.Combination.{BelowBy, IndividualBy, Kin, next_successor}
use Rattle.layout.specs.Tables.{parent_at}
use Rattle.layout.specs.declared.Tables.{Tables}
use Rattle.meaning.specs.Countermodel.{size}
use Rattle.meaning.specs.Intervals.{Constraint}
use Rattle.meaning.specs.NormalForm.{Node, Successors, none, successor}
use Rattle.meaning.specs.Vocabulary.{Vocabulary}
use Rattle.theory.proofs.Rules.{order}

-- ---- one row after another

module _ (w : List ℕ) (x n : ℕ) where
  pub next_ends : (j : ℕ) → n ≤ j → next_successor w x (n - j) j ≡ j
  unfolding next_successor
  next_ends j h = let e : n - j ≡ 0 = omega arith in rw e

  module _ (j : ℕ) (more : j < n) where
    row_here : n - j ≡ suc (n - (j + 1))
    row_here = omega arith

    pub next_behind : parent_at w j < x → next_successor w x (n - j) j ≡ n
    unfolding next_successor
    next_behind h = rw (row_here, lt-ltb (parent_at w j) x h) (omega arith)

    pub next_here : parent_at w j ≡ x → next_successor w x (n - j) j ≡ j
    unfolding next_successor
    next_here h = rw (row_here, le-ltb (parent_at w j) x (omega arith), eq-eqb (parent_at w j) x h)

    pub next_on : x ≤ parent_at w j → (parent_at w j ≡ x → ⊥) → next_successor w x (n - j) j ≡ next_successor w x (n - (j + 1)) (j + 1)
    unfolding next_successor
    next_on h d =
        let e : suc j ≡ j + 1 = omega arith in
        rw (row_here, le-ltb (parent_at w j) x h, ne_eqb (parent_at w j) x d) (ap (λ (i : ℕ). next_successor w x (n - (j + 1)) i) e)

-- ---- one successor after another

module _ (v : ℕ → Constraint) (K : Vocabulary) (w : List ℕ) (top : ℕ) where
  -- every row of those below individual i has the parent i or one after it
  pub parents : (ks : Successors) (i n : ℕ) → i ≤ n → BelowBy v K w top ks i n → (j : ℕ) → n ≤ j → j < n + size ks → i ≤ parent_at w j
  parents none i n h b j p q = absurd (omega arith)
  parents (successor r m under next) i n h b j p q =
      go (order n j) (order j (suc n + size under)) (λ c d. parents under (suc n) (suc n) (omega arith) b.3 j c d)
      (λ c. parents next i (suc n + size under) (omega arith) b.4 j c (omega arith))
    where
      go : (n < j) ⊎ (j ≤ n) → (j < suc n + size under) ⊎ (suc n + size under ≤ j) →
          (suc n ≤ j → j < suc n + size under → suc n ≤ parent_at w j) → (suc n + size under ≤ j → i ≤ parent_at w j) → i ≤ parent_at w j
      go (inr a) d f g = let e : n ≡ j = omega arith in subst (λ (k : ℕ). i ≤ parent_at w k) e (omega (arith, b.0))
      go (inl a) (inl d) f g = let u = f (omega arith) d in omega arith
      go (inl a) (inr d) f g = g d

module _ {v : ℕ → Constraint} {K : Vocabulary} {w : List ℕ} {t : Tables} {x j : ℕ} where
  module _ {r : ℕ} {m : Node} {under next : Successors} (k : Kin v K w t x j (successor r m under next)) where
    pub kin_individual : IndividualBy v K w t.constraints j m
    kin_individual = k.below.2

    pub kin_inside : j < t.individuals
    kin_inside = omega arith

    -- what follows: the next successors, from after those below this one
    pub kin_rest : Kin v K w t x (suc j + size under) next
    kin_rest =
        let e : j + size (successor r m under next) ≡ suc j + size under + size next = omega arith in
        record {
          below = k.below.4;
          fits = omega arith;
          ends = λ h. subst (λ (i : ℕ). parent_at w i < x) e (k.ends (omega arith));
        }

    module _ (own : x ≤ j) where
      pub kin_child : Kin v K w t (suc j) (suc j) under
      kin_child =
          record {
            below = k.below.3;
            fits = omega arith;
            ends = λ h. go next kin_rest.below kin_rest.ends h;
          }
        where
          go : (ks : Successors) → BelowBy v K w t.constraints ks x (suc j + size under) →
              (suc j + size under + size ks < t.individuals → parent_at w (suc j + size under + size ks) < x) →
              suc j + size under < t.individuals → parent_at w (suc j + size under) < suc j
          go none b e h = let z : suc j + size under + 0 ≡ suc j + size under = omega arith in
              let l = subst (λ (i : ℕ). parent_at w i < x) z (e (omega arith)) in omega arith
          go (successor q n un ks) b e h = omega arith
