-- Laws of the walk over an individual's successors that are in no list of carriers, one after another.
use Prim.Native.Nat.{◌+◌, ◌-◌, ◌<◌, ◌≤◌, pred, suc, ℕ}
use mathlib.Core.Bool.{Bool, ◌&&◌, false, true}
use mathlib.Core.List.{List}
use mathlib.Core.Logic.{⊎_elim}
use mathlib.Core.Path.{◌∙◌, ◌≡◌, ap, refl, subst, sym}
use native.Mathlib.Omega.{arith}
use borrow.Author.Tests.{eq-eqb, ne_eqb}
use lib.Bits.{bit_or}
use lib.Dec.{eqb}
use Rattle.carriers.specs.Carriers.{slot_of}
use Rattle.layout.specs.Combination.{next_successor}
use Rattle.layout.specs.Tables.{parent_at, role_at}
use Rattle.layout.specs.declared.Tables.{Tables}
use Rattle.meaning.specs.Intervals.{Constraint}
use Rattle.policy.specs.Terms.{conjuncts_at}
use Rattle.retest.proofs.Masks.{agrees_left, agrees_right}
use Rattle.retest.specs.Memory.{Below, Sure, TellsAll, TellsRow, TellsStill}
use Rattle.subsumption.proofs.Successors.{next_least, next_parent, next_passes}
use Rattle.retest.specs.Reasons.{Agrees, Choice, has_still, is_still}
use Rattle.subsumption.specs.Tests.{holds_at}
use Rattle.retest.specs.declared.Reason.{Reason}
use Rattle.theory.proofs.Counting.{none_below, some_below}
use Rattle.theory.proofs.Rules.{order}

-- ---- one row

module _ {q dials c w : List ℕ} {t : Tables} {s : List ℕ} {left k x : ℕ} (g : Below q dials c w t s left k x) {i role : ℕ} (ei : i ≡ x - 1) (er : role ≡ role_at w i) where
  role_at_lem : role ≡ role_at w (pred x)
  role_at_lem = let z : i ≡ pred x = omega arith in er ∙ ap (role_at w) z

  pub row_other : {r : ℕ} {b : Reason} → b.holds ≡ false → (role ≡ r → ⊥) → TellsRow q dials c w t k x r s b
  row_other {r} z n = record { tells = record { same = λ v a d. rw (ne_eqb (role_at w (pred x)) r (λ e. n (role_at_lem ∙ e))) (sym z) }; sure = g.testable.sure }

  pub row_own : {r : ℕ} {s' : List ℕ} {b : Reason} → role ≡ r → TellsAll q dials c w t k x s' b → TellsRow q dials c w t k x r s' b
  row_own {r} e f = record { tells = record { same = λ v a d. rw (eq-eqb (role_at w (pred x)) r (sym role_at_lem ∙ e)) (f.tells.same v a d) }; sure = f.sure }

-- ---- one after another

abbrev passing : (ℕ → Constraint) → List ℕ → List ℕ → List ℕ → Tables → ℕ → ℕ → ℕ → ℕ → Bool
passing v q c w t k x r = is_still c w x r (holds_at v w t (conjuncts_at q k))

-- no successor before row j passes, relying on the dials of the mask
pub record Seeking (q dials c w : List ℕ) (t : Tables) (s : List ℕ) (left k x r mask j : ℕ) : Type 0 where
  pub below : Below q dials c w t s left k x
  pub none : (v : ℕ → Constraint) → Choice v w t.constraints → Agrees dials w mask v → (i : ℕ) → i < j →
      is_still c w x r (holds_at v w t (conjuncts_at q k)) i ≡ false
  pub own : x ≤ j
  pub here : j < t.individuals → parent_at w j ≡ x

-- a row of another parent, or in a list, does not count
stranger : (v : ℕ → Constraint) (q c w : List ℕ) (t : Tables) (k x r l : ℕ) → (parent_at w l ≡ x → ⊥) → passing v q c w t k x r l ≡ false
stranger v q c w t k x r l h = go (eqb (slot_of c (suc l)) 0)
  where
    go : (y : Bool) → y && (eqb (parent_at w l) x && (eqb (role_at w l) r && holds_at v w t (conjuncts_at q k) (suc l))) ≡ false
    go true = rw (ne_eqb (parent_at w l) x h)
    go false = refl

-- what is remembered has changed
module _ {q dials c w : List ℕ} {t : Tables} {s s' : List ℕ} {left k x : ℕ} where
  pub below_on : Below q dials c w t s left k x → Sure q c w t s' → Below q dials c w t s' left k x
  below_on b m = record {
    level = b.level;
    testable = record { testing = b.testable.testing; listed = b.testable.listed; sure = m; reads = b.testable.reads; shallow = b.testable.shallow };
    individual = b.individual;
  }

module _ {q dials c w : List ℕ} {t : Tables} {s : List ℕ} {left k x r n : ℕ} (en : n ≡ t.individuals) where
  -- rows of another parent are passed over
  passed : {mask i j : ℕ} → Below q dials c w t s left k x → x ≤ i → i ≤ n →
      ((v : ℕ → Constraint) → Choice v w t.constraints → Agrees dials w mask v → (l : ℕ) → l < i → passing v q c w t k x r l ≡ false) →
      j ≡ next_successor w x (n - i) i → Seeking q dials c w t s left k x r mask j
  passed {mask} {i} {j} b own few f e = record {
    below = b;
    none = λ v a d l h. ⊎_elim (f v a d l) (λ y. stranger v q c w t k x r l (next_passes b.testable.testing.nested x (n - i) i own (omega arith) l y (rw e at h))) (order l i);
    own = let a = next_least b.testable.testing.nested x (n - i) i in omega arith;
    here = λ h. ap (parent_at w) e ∙ next_parent b.testable.testing.nested x (n - i) i (omega arith);
  }

  pub still_starts : {i j : ℕ} → Below q dials c w t s left k x → i ≡ x → j ≡ next_successor w x (n - i) i → Seeking q dials c w t s left k x r 0 j
  still_starts {i} b ei ej =
      let u = b.individual.within in
      passed b (omega arith) (omega arith) (λ v a d l h. stranger v q c w t k x r l (λ z. let o = b.testable.testing.nested.before l (omega arith) in omega arith)) ej

  module _ {mask j : ℕ} (g : Seeking q dials c w t s left k x r mask j) where
    pub still_ends : {b : Reason} → b.holds ≡ false → b.dials ≡ mask → n ≤ j → TellsStill q dials c w t k x r s b
    unfolding has_still
    still_ends z e h = record {
      tells = record { same = λ v a d. none_below (passing v q c w t k x r) t.individuals (λ i l. g.none v a (rw e at d) i (omega arith)) ∙ sym z };
      sure = g.below.testable.sure;
    }

    pub still_falls : {l : ℕ} → j < n → l ≡ next_successor w x (n - (j + 1)) (j + 1) → n - l < n - j
    still_falls more el = let a = next_least g.below.testable.testing.nested x (n - (j + 1)) (j + 1) in omega arith

    module _ {y : ℕ} (more : j < n) (ey : y ≡ j + 1) where
      pub still_row : Below q dials c w t s left k y
      still_row = record { level = g.below.level; testable = g.below.testable; individual = record { some = omega arith; within = omega arith } }

      at : pred y ≡ j
      at = omega arith

      up : y ≡ suc j
      up = omega arith

      pub still_found : {s' : List ℕ} {one : Reason} {slot : ℕ} → slot ≡ slot_of c y → slot ≡ 0 → TellsRow q dials c w t k y r s' one → one.holds ≡ true →
          TellsStill q dials c w t k x r s' one
      unfolding has_still
      still_found {s'} {one} es z f h = record {
        tells = record {
          same = λ v a d. some_below (passing v q c w t k x r) t.individuals j (omega arith)
              (rw (eq-eqb (slot_of c (suc j)) 0 (ap (slot_of c) (sym up) ∙ sym es ∙ z), eq-eqb (parent_at w j) x (g.here (omega arith)))
              (subst (λ (i : ℕ). eqb (role_at w i) r && holds_at v w t (conjuncts_at q k) (suc j) ≡ true) at
              (subst (λ (i : ℕ). eqb (role_at w (pred y)) r && holds_at v w t (conjuncts_at q k) i ≡ true) up (f.tells.same v a d ∙ h)))) ∙ sym h;
        };
        sure = f.sure;
      }

      module _ {l : ℕ} (el : l ≡ next_successor w x (n - (j + 1)) (j + 1)) where
        -- the rows before and this one
        rest : {P : ℕ → Type 0} → ((i : ℕ) → i < j → P i) → P j → (i : ℕ) → i < j + 1 → P i
        rest {P} a h i b = ⊎_elim (a i) (λ d. let z : j ≡ i = omega arith in subst P z h) (order i j)

        pub still_listed : {slot : ℕ} → slot ≡ slot_of c y → (slot ≡ 0 → ⊥) → Seeking q dials c w t s left k x r mask l
        still_listed es h = passed g.below (let o = g.own in omega arith) (omega arith)
            (λ v a d. rest (g.none v a d) (rw (ne_eqb (slot_of c (suc j)) 0 (λ z. h (es ∙ ap (slot_of c) up ∙ z))))) el

      pub still_on : {s' : List ℕ} {one : Reason} {l : ℕ} → l ≡ next_successor w x (n - (j + 1)) (j + 1) → TellsRow q dials c w t k y r s' one → one.holds ≡ false →
          Seeking q dials c w t s' left k x r (bit_or mask one.dials) l
      still_on {s'} {one} {l} el f h = record {
        below = below_on g.below f.sure;
        none = λ v a d i b. ⊎_elim (λ e. rest el (g.none v a (agrees_left mask one.dials d)) (fails v a (agrees_right mask one.dials d)) i e) (later v i b) (order i (j + 1));
        own = let o = g.own in let a = next_least g.below.testable.testing.nested x (n - (j + 1)) (j + 1) in omega arith;
        here = λ b. ap (parent_at w) el ∙ next_parent g.below.testable.testing.nested x (n - (j + 1)) (j + 1) (omega arith);
      }
        where
          fails : (v : ℕ → Constraint) → Choice v w t.constraints → Agrees dials w one.dials v → passing v q c w t k x r j ≡ false
          fails v a d = go (eqb (slot_of c (suc j)) 0) (eqb (parent_at w j) x)
            where
              e : eqb (role_at w j) r && holds_at v w t (conjuncts_at q k) (suc j) ≡ false
              e = subst (λ (i : ℕ). eqb (role_at w i) r && holds_at v w t (conjuncts_at q k) (suc j) ≡ false) at
                  (subst (λ (i : ℕ). eqb (role_at w (pred y)) r && holds_at v w t (conjuncts_at q k) i ≡ false) up (f.tells.same v a d ∙ h))

              go : (b d : Bool) → b && (d && (eqb (role_at w j) r && holds_at v w t (conjuncts_at q k) (suc j))) ≡ false
              go true true = e
              go true false = refl
              go false d = refl

          later : (v : ℕ → Constraint) (i : ℕ) → i < l → j + 1 ≤ i → passing v q c w t k x r i ≡ false
          later v i b e = stranger v q c w t k x r i
              (next_passes g.below.testable.testing.nested x (n - (j + 1)) (j + 1) (let o = g.own in omega arith) (omega arith) i e (rw el at b))
