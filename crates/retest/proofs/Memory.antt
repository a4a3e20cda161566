-- Laws of the memory: what is recalled is so, and what is so may be remembered.
use Prim.Native.Nat.{◌%◌, ◌*◌, ◌+◌, ◌/◌, ◌<◌, ◌≤◌, suc, zero, ℕ}
use mathlib.Core.Bool.{Bool, cond, false, true}
use mathlib.Core.List.{List, [], ◌∷◌}
use mathlib.Core.Logic.{◌⊎◌, inl, inr}
use mathlib.Core.Path.{◌∙◌, ◌≡◌, ap, refl, subst, sym}
use native.Mathlib.Omega.{arith}
use borrow.Author.Tests.{eqb-false, eqb-true}
use lib.Dec.{T, eqb}
use lib.ListN.{get_or, length, set}
use lib.Seq.{get_or-set_other, get_or-set_same}
use Rattle.layout.specs.declared.Tables.{Tables}
use Rattle.meaning.specs.Intervals.{Constraint}
use Rattle.policy.specs.Terms.{conjunct_of}
use Rattle.retest.specs.declared.State.TheVariants.{Fails, Passes, Rests}
use Rattle.retest.specs.declared.State.{State}
use Rattle.std.specs.Prelude.{Option, None, Some}
use Rattle.retest.specs.Memory.{Holds, Sure, number_of, state_of, entry_of, memory_place, recalled, remembered}
use Rattle.subsumption.specs.Tests.{Individual}
use Rattle.retest.specs.Reasons.{Choice, Tells}
use Rattle.subsumption.specs.Tests.{holds_at}
use Rattle.retest.specs.declared.Reason.{Reason}
use Rattle.theory.proofs.Rules.{order}
use Rattle.words.proofs.Bits.{bit_none}

-- ---- one entry

set_past : (l : List ℕ) (i a : ℕ) → length l ≤ i → set l i a ≡ l
set_past [] i a h = refl
set_past (x ∷ l) zero a h = absurd (omega arith)
set_past (x ∷ l) (suc i) a h = ap (λ (m : List ℕ). x ∷ m) (set_past l i a (omega arith))

-- ---- a state and its number

number_few : (state : State) → number_of state < 4
number_few Passes = omega arith
number_few Fails = omega arith
number_few Rests = omega arith

state_number : (state : State) → state_of (number_of state) ≡ Some state
state_number Passes = refl
state_number Fails = refl
state_number Rests = refl

-- ---- all of them

module _ {q c w : List ℕ} {t : Tables} {s : List ℕ} (m : Sure q c w t s) (k slot : ℕ) {x : ℕ} (few : slot ≤ 16) where
  pub recall_sure : {r : Option State} → Individual t x → r ≡ recalled s k slot x → Holds q c w t k x r
  recall_sure {r} ind e = go (eqb (entry_of s k slot / 4) x) refl e
    where
      go : (b : Bool) → eqb (entry_of s k slot / 4) x ≡ b → r ≡ cond b (state_of (entry_of s k slot % 4)) None → Holds q c w t k x r
      go true eb h = rw (← eqb-true (entry_of s k slot / 4) x eb, h) (m.known k slot few (rw (eqb-true (entry_of s k slot / 4) x eb) ind))
      go false eb h = record { passes = λ z. cc; fails = λ z. cc; rests = λ z. cc }

  pub sure_remembered : {state : State} {s' : List ℕ} → Holds q c w t k x (Some state) → s' ≡ remembered s k slot x state → Sure q c w t s'
  sure_remembered {state} {s'} f e = record { known = λ i j b. rw e (go i j b (order (memory_place k slot) (length s)) (same i j)) }
    where
      same : (i j : ℕ) → (memory_place i j ≡ memory_place k slot) ⊎ (memory_place i j ≡ memory_place k slot → ⊥)
      same i j = split' (eqb (memory_place i j) (memory_place k slot)) refl
        where
          split' : (b : Bool) → eqb (memory_place i j) (memory_place k slot) ≡ b → (memory_place i j ≡ memory_place k slot) ⊎ (memory_place i j ≡ memory_place k slot → ⊥)
          split' true h = inl (eqb-true (memory_place i j) (memory_place k slot) h)
          split' false h = inr (eqb-false (memory_place i j) (memory_place k slot) h)

      go : (i j : ℕ) → j ≤ 16 → (memory_place k slot < length s) ⊎ (length s ≤ memory_place k slot) →
          (memory_place i j ≡ memory_place k slot) ⊎ (memory_place i j ≡ memory_place k slot → ⊥) →
          Individual t (entry_of (remembered s k slot x state) i j / 4) → Holds q c w t i (entry_of (remembered s k slot x state) i j / 4) (state_of (entry_of (remembered s k slot x state) i j % 4))
      go i j b (inr past) d = rw (set_past s (memory_place k slot) (4 * x + number_of state) past) (m.known i j b)
      go i j b (inl in_range) (inr other) = rw (get_or-set_other s (memory_place k slot) (memory_place i j) (4 * x + number_of state) 0 other) (m.known i j b)
      go i j b (inl in_range) (inl z) =
          let ek : i ≡ k = omega arith in
          let got : entry_of (remembered s k slot x state) i j ≡ 4 * x + number_of state = ap (λ (n : ℕ). get_or (remembered s k slot x state) n 0) z ∙ get_or-set_same s (memory_place k slot) (4 * x + number_of state) 0 in_range in
          let l = number_few state in
          let a : (4 * x + number_of state) / 4 ≡ x = omega arith in
          let d : (4 * x + number_of state) % 4 ≡ number_of state = omega arith in
          λ _. rw (got, a, d, state_number state, ek) f

-- an answer that relies on no dial is the same whatever the pieces
module _ {dials w : List ℕ} {t : Tables} {passes : (ℕ → Constraint) → Bool} {r : Reason} (f : Tells dials w t passes r) (none : r.dials ≡ 0) where
  pub tells_always : (v : ℕ → Constraint) → Choice v w t.constraints → passes v ≡ r.holds
  tells_always v h = f.same v h (record { same = λ d l e. absurd (subst T (sym (rw none at e) ∙ bit_none d) tt) })

pub settled_known : {q dials c w : List ℕ} {t : Tables} {k x : ℕ} {state : State} {r : Reason} → Tells dials w t (λ v. holds_at v w t (conjunct_of q k) x) r → r.dials ≡ 0 →
    state ≡ cond r.holds Passes Fails → Holds q c w t k x (Some state)
settled_known {q} {dials} {c} {w} {t} {k} {x} {state} {r} f z e = rw e (go r.holds (tells_always f z))
  where
    go : (b : Bool) → ((v : ℕ → Constraint) → Choice v w t.constraints → holds_at v w t (conjunct_of q k) x ≡ b) → Holds q c w t k x (Some (cond b Passes Fails))
    go true h = record { passes = λ _ v a. h v a; fails = λ n. cc; rests = λ n. cc }
    go false h = record { passes = λ n. cc; fails = λ _ v a. h v a; rests = λ n. cc }
