-- What is known to pass: how a yes covers combinations, and what is left of it as the odometer goes back over the constraints.
use Prim.Native.Nat.{◌+◌, ◌<◌, ◌≤◌, suc, zero, ℕ}
use mathlib.Core.Bool.{Bool, ◌&&◌, ◌||◌, false, true}
use mathlib.Core.List.{List}
use mathlib.Core.Logic.{◌⊎◌, inl, inr}
use mathlib.Core.Path.{◌∙◌, ◌≡◌, ap, refl, subst, sym}
use native.Mathlib.Nat.{add-suc, add-zero}
use native.Mathlib.Omega.{arith}
use borrow.Author.Tests.{eq-eqb}
use lib.Bits.{bit_or}
use lib.Dec.{T, eqb, eqb→eq}
use lib.ListN.{get_or, length}
use Rattle.odometer.specs.Digits.{Agree, Behind, Covers, Valid, in_mask}
use Rattle.theory.proofs.Counting.{below_some, some_below}
use Rattle.theory.proofs.Rules.{T_and, is_true, order, same_test}
use Rattle.words.proofs.Bits.{bit_or_lem}
use Rattle.words.specs.Sets.{test_bit}

is_yes : {b : Bool} → T b → b ≡ true
is_yes {b} t = same_test b true (λ _. tt) (λ _. t)

-- ---- from the last constraint back

module _ {s : ℕ → ℕ} {n : ℕ} {P : (ℕ → ℕ) → Bool} {c : ℕ → ℕ} where
  -- a constraint that the yes does not rely on is passed over
  pub covers_drop : {i : ℕ} {R : ℕ → Bool} → R i ≡ false → Covers s n P c (suc i) R → Covers s n P c i R
  covers_drop {i} {R} z f = record { pass = λ e v a. f.pass e v (λ j h t. go e a j h t (order j i)) }
    where
      go : (e : ℕ → ℕ) → Agree i R e c → (j : ℕ) → j < suc i → R j ≡ true → (j < i) ⊎ (i ≤ j) → e j ≡ c j
      go e a j h t (inl b) = a j b t
      go e a j h t (inr b) = let q : j ≡ i = omega arith in absurd (subst T (sym t ∙ ap R q ∙ z) tt)

  pub covers_drops : (k : ℕ) {i : ℕ} {R : ℕ → Bool} → ((j : ℕ) → i ≤ j → j < i + k → R j ≡ false) → Covers s n P c (i + k) R → Covers s n P c i R
  covers_drops zero f h = rw add-zero at h
  covers_drops (suc k) {i} f h = covers_drops k (λ j a b. f j a (omega arith)) (covers_drop (f (i + k) (omega arith) (omega arith)) (rw add-suc at h))

  module _ {i : ℕ} {R A B : ℕ → Bool} (left : (j : ℕ) → R j ≡ true → B j ≡ true) (right : (j : ℕ) → A j ≡ true → B j ≡ true)
      (f : Covers s n P c (suc i) R) (g : Behind s n P c i A) where
    -- with the digit at hand and those below it
    covers_here : (e : ℕ → ℕ) → Valid s n e → Agree i B e c → e i ≤ c i → P e ≡ true
    covers_here e v a l = go (order (e i) (c i))
      where
        at : (j : ℕ) → c i ≤ e i → j < suc i → R j ≡ true → (j < i) ⊎ (i ≤ j) → e j ≡ c j
        at j b h t (inl d) = a j d (left j t)
        at j b h t (inr d) = let q : i ≡ j = omega arith in subst (λ (x : ℕ). e x ≡ c x) q (omega arith)

        go : (e i < c i) ⊎ (c i ≤ e i) → P e ≡ true
        go (inl b) = g.pass e v (λ j h t. a j h (right j t)) b
        go (inr b) = f.pass e v (λ j h t. at j b h t (order j i))

    -- after its last piece the constraint itself is no reason any more
    pub covers_last : i < n → s i ≤ suc (c i) → Covers s n P c i B
    covers_last b l = record { pass = λ e v a. let h = v i b in covers_here e v a (omega arith) }

    -- else it goes on, and what was relied on is kept
    pub behind_next : (d : ℕ → ℕ) → ((j : ℕ) → j < i → d j ≡ c j) → d i ≡ suc (c i) → Behind s n P d i B
    behind_next d low here = record { pass = λ e v a l. covers_here e v (λ j h t. a j h t ∙ low j h) (omega arith) }

-- where the digits before it are the same it stays; at digit 0 nothing is said
pub behind_same : {s : ℕ → ℕ} {n : ℕ} {P : (ℕ → ℕ) → Bool} {c d : ℕ → ℕ} {i : ℕ} {A : ℕ → Bool} → ((j : ℕ) → j < suc i → d j ≡ c j) →
    Behind s n P c i A → Behind s n P d i A
behind_same {c = c} {d = d} {i = i} h g =
    record { pass = λ e v a l. g.pass e v (λ j b t. a j b t ∙ h j (omega arith)) (subst (λ (x : ℕ). e i < x) (h i (omega arith)) l) }

pub behind_first : {s : ℕ → ℕ} {n : ℕ} {P : (ℕ → ℕ) → Bool} {c : ℕ → ℕ} {i : ℕ} {A : ℕ → Bool} → c i ≡ 0 → Behind s n P c i A
behind_first z = record { pass = λ e v a l. absurd (omega arith) }

-- ---- masks

module _ (dials : List ℕ) where
  pub mask_bit : (mask i d : ℕ) → d < length dials → get_or dials d 0 ≡ i → test_bit mask d ≡ true → in_mask dials mask i ≡ true
  mask_bit mask i d h e t = some_below (λ d. eqb (get_or dials d 0) i && test_bit mask d) (length dials) d h (rw (eq-eqb (get_or dials d 0) i e, t))

  pub mask_in : (mask i : ℕ) → in_mask dials mask i ≡ true → (d : ℕ) × (d < length dials) × (get_or dials d 0 ≡ i) × (test_bit mask d ≡ true)
  mask_in mask i h =
      let a = below_some (λ d. eqb (get_or dials d 0) i && test_bit mask d) (length dials) h in
      let b = T_and (eqb (get_or dials a.0 0) i) (test_bit mask a.0) (is_true a.2) in
      (a.0, a.1, eqb→eq (get_or dials a.0 0) i b.0, is_yes b.1)

  pub mask_out : (mask i : ℕ) → ((d : ℕ) → d < length dials → get_or dials d 0 ≡ i → test_bit mask d ≡ false) → in_mask dials mask i ≡ false
  mask_out mask i f = go (in_mask dials mask i) refl
    where
      go : (b : Bool) → in_mask dials mask i ≡ b → in_mask dials mask i ≡ false
      go true e = let a = mask_in mask i e in absurd (subst T (sym a.3 ∙ f a.0 a.1 a.2) tt)
      go false e = e

  pub mask_left : (a b j : ℕ) → in_mask dials a j ≡ true → in_mask dials (bit_or a b) j ≡ true
  mask_left a b j h = let x = mask_in a j h in mask_bit (bit_or a b) j x.0 x.1 x.2 (bit_or_lem a b x.0 ∙ rw x.3)

  pub mask_right : (a b j : ℕ) → in_mask dials b j ≡ true → in_mask dials (bit_or a b) j ≡ true
  mask_right a b j h = let x = mask_in b j h in mask_bit (bit_or a b) j x.0 x.1 x.2 (bit_or_lem a b x.0 ∙ go (test_bit a x.0) (test_bit b x.0) x.3)
    where
      go : (p q : Bool) → q ≡ true → (p || q) ≡ true
      go true q e = refl
      go false q e = e
