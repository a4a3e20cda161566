-- The number of a combination: its digits, the last varying fastest (SPECIFICATION 7.3), the number after a skip, and the order.
-- Assumes nothing.
use Prim.Native.Nat.{◌%◌, ◌*◌, ◌+◌, ◌-◌, ◌/◌, ◌<◌, ◌≤◌, suc, zero, ℕ}
use mathlib.Core.Bool.{Bool, cond, false, true}
use mathlib.Core.List.{List, [], ◌∷◌}
use mathlib.Core.Logic.{◌⊎◌, inl, inr}
use mathlib.Core.Path.{◌∙◌, ◌≡◌, ap, ap₂, refl, subst, sym}
use native.Mathlib.Nat.{add-mul, add-suc, add-zero, div-add-mod', div-lt_iff_lt-mul, mod-eq_of_lt, mod-lt, mul-add-mod_self_right, mul_assoc, mul-le-mul_right, suc-mul, zero-mul}
use native.Mathlib.Omega.{arith}
use borrow.Author.Tests.{eq-eqb, ne_eqb}
use lib.Dec.{eqb}
use Rattle.meaning.specs.Lists.{At, at_here, at_there, first_failing, found, nowhere}
use Rattle.odometer.specs.Digits.{span, value}
use Rattle.theory.proofs.Rules.{order}

-- ---- digits

module _ (s : ℕ → ℕ) where
  -- the digits of the k constraints from m on as one number
  abbrev pub low : (ℕ → ℕ) → ℕ → ℕ → ℕ
  low c m zero = 0
  low c m (suc k) = low c m k * s (m + k) + c (m + k)

  pub value_split : (c : ℕ → ℕ) (m k : ℕ) → value s c (m + k) ≡ value s c m * span s m k + low c m k
  value_split c m zero = rw add-zero (omega arith)
  value_split c m (suc k) =
      rw (add-suc, value_split c m k)
      (omega (arith, add-mul (value s c m * span s m k) (low c m k) (s (m + k)), mul_assoc (value s c m) (span s m k) (s (m + k))))

  pub low_lt : (c : ℕ → ℕ) (m k : ℕ) → ((j : ℕ) → j < m + k → c j < s j) → low c m k < span s m k
  low_lt c m zero v = omega arith
  low_lt c m (suc k) v =
      let a : suc (low c m k) * s (m + k) ≤ span s m k * s (m + k) = mul-le-mul_right (s (m + k)) (low_lt c m k (λ j h. v j (omega arith))) in
      omega (arith, a, suc-mul (low c m k) (s (m + k)), v (m + k) (omega arith))

  low_zero : (c : ℕ → ℕ) (m k : ℕ) → ((j : ℕ) → m ≤ j → c j ≡ 0) → low c m k ≡ 0
  low_zero c m zero z = refl
  low_zero c m (suc k) z = rw (low_zero c m k z, z (m + k) (omega arith)) (omega (arith, zero-mul (s (m + k))))

  value_same : (c d : ℕ → ℕ) (m : ℕ) → ((j : ℕ) → j < m → d j ≡ c j) → value s d m ≡ value s c m
  value_same c d zero h = refl
  value_same c d (suc m) h = ap₂ (λ (x y : ℕ). x * s m + y) (value_same c d m (λ j b. h j (omega arith))) (h m (omega arith))

  -- the next piece at place i, the first at those behind it, which have the weight w: the number goes on to the next multiple of w
  pub value_moved : (c d : ℕ → ℕ) (i k : ℕ) → ((j : ℕ) → j < suc i + k → c j < s j) → ((j : ℕ) → j < i → d j ≡ c j) → d i ≡ suc (c i) →
      ((j : ℕ) → suc i ≤ j → d j ≡ 0) →
      value s d (suc i + k) ≡ value s c (suc i + k) - value s c (suc i + k) % span s (suc i) k + span s (suc i) k
  value_moved c d i k v lowly here high =
      let w = span s (suc i) k in
      let x = value s c (suc i) in
      let r : low c (suc i) k < w = low_lt c (suc i) k v in
      let a : value s c (suc i + k) ≡ x * w + low c (suc i) k = value_split c (suc i) k in
      let m : value s c (suc i + k) % w ≡ low c (suc i) k = ap (λ (y : ℕ). y % w) a ∙ (mul-add-mod_self_right x w (low c (suc i) k) ∙ mod-eq_of_lt r) in
      let y : value s d (suc i) ≡ suc x = ap₂ (λ (p q : ℕ). p * s i + q) (value_same c d i lowly) here ∙ add-suc (value s c i * s i) (c i) in
      let b : value s d (suc i + k) ≡ suc x * w + 0 = value_split d (suc i) k ∙ ap₂ (λ (p q : ℕ). p * w + q) y (low_zero d (suc i) k high) in
      omega (arith, a, b, m, suc-mul x w)

  -- ---- the order

  module _ (t x y a b : ℕ) (p : a < t) (q : b < t) where
    parts_same : x * t + a ≡ y * t + b → (x ≡ y) × (a ≡ b)
    parts_same e = go (order x y) (order y x)
      where
        go : (x < y) ⊎ (y ≤ x) → (y < x) ⊎ (x ≤ y) → (x ≡ y) × (a ≡ b)
        go (inl h) k = let m : suc x * t ≤ y * t = mul-le-mul_right t h in absurd (omega (arith, m, suc-mul x t))
        go (inr h) (inl k) = let m : suc y * t ≤ x * t = mul-le-mul_right t k in absurd (omega (arith, m, suc-mul y t))
        go (inr h) (inr k) = let z : x ≡ y = omega arith in let m = ap (λ (l : ℕ). l * t) z in (z, omega (arith, m))

    parts_less : x * t + a < y * t + b → (x < y) ⊎ ((x ≡ y) × (a < b))
    parts_less e = go (order x y)
      where
        go : (x < y) ⊎ (y ≤ x) → (x < y) ⊎ ((x ≡ y) × (a < b))
        go (inl h) = inl h
        go (inr h) = inr (eq (order y x))
          where
            eq : (y < x) ⊎ (x ≤ y) → (x ≡ y) × (a < b)
            eq (inl k) = let m : suc y * t ≤ x * t = mul-le-mul_right t k in absurd (omega (arith, m, suc-mul y t))
            eq (inr k) = let z : x ≡ y = omega arith in let m = ap (λ (l : ℕ). l * t) z in (z, omega (arith, m))

  pub digits_same : (e c : ℕ → ℕ) (n : ℕ) → ((j : ℕ) → j < n → e j < s j) → ((j : ℕ) → j < n → c j < s j) → value s e n ≡ value s c n →
      (j : ℕ) → j < n → e j ≡ c j
  digits_same e c zero u v h j b = absurd (omega arith)
  digits_same e c (suc n) u v h j b = go (λ d. digits_same e c n (λ i l. u i (omega arith)) (λ i l. v i (omega arith)) z.0 j d) (order j n)
    where
      z : (value s e n ≡ value s c n) × (e n ≡ c n)
      z = parts_same (s n) (value s e n) (value s c n) (e n) (c n) (u n (omega arith)) (v n (omega arith)) h

      go : (j < n → e j ≡ c j) → (j < n) ⊎ (n ≤ j) → e j ≡ c j
      go f (inl d) = f d
      go f (inr d) = let q : n ≡ j = omega arith in subst (λ (l : ℕ). e l ≡ c l) q z.1

  -- a smaller number has a smaller digit, and the same digits before it
  pub digits_less : (e c : ℕ → ℕ) (n : ℕ) → ((j : ℕ) → j < n → e j < s j) → ((j : ℕ) → j < n → c j < s j) → value s e n < value s c n →
      (i : ℕ) × (i < n) × ((j : ℕ) → j < i → e j ≡ c j) × (e i < c i)
  digits_less e c zero u v h = absurd (omega arith)
  digits_less e c (suc n) u v h =
      go (λ d. digits_less e c n (λ i l. u i (omega arith)) (λ i l. v i (omega arith)) d) (parts_less (s n) (value s e n) (value s c n) (e n) (c n) (u n (omega arith)) (v n (omega arith)) h)
    where
      go : (value s e n < value s c n → (i : ℕ) × (i < n) × ((j : ℕ) → j < i → e j ≡ c j) × (e i < c i)) →
          (value s e n < value s c n) ⊎ ((value s e n ≡ value s c n) × (e n < c n)) →
          (i : ℕ) × (i < suc n) × ((j : ℕ) → j < i → e j ≡ c j) × (e i < c i)
      go f (inl d) = let r = f d in (r.0, omega (arith, r.1), r.2, r.3)
      go f (inr d) = (n, omega arith, digits_same e c n (λ i l. u i (omega arith)) (λ i l. v i (omega arith)) d.0, d.1)

  -- every number has digits
  abbrev pub digits : ℕ → ℕ → ℕ → ℕ
  digits zero k j = 0
  digits (suc n) k j = let rest = digits n (k / s n) j in cond (eqb j n) (k % s n) rest

  module _ (some : (i : ℕ) → 0 < s i) where
    digits_here : (n k : ℕ) → digits (suc n) k n ≡ k % s n
    digits_here n k = rw (eq-eqb n n refl)

    digits_below : (n k j : ℕ) → j < n → digits (suc n) k j ≡ digits n (k / s n) j
    digits_below n k j h = rw (ne_eqb j n (λ z. omega arith))

    pub digits_valid : (n k j : ℕ) → j < n → digits n k j < s j
    digits_valid zero k j h = absurd (omega arith)
    digits_valid (suc n) k j h = go (λ d. digits_valid n (k / s n) j d) (order j n)
      where
        go : (j < n → digits n (k / s n) j < s j) → (j < n) ⊎ (n ≤ j) → digits (suc n) k j < s j
        go f (inl d) = subst (λ (x : ℕ). x < s j) (sym (digits_below n k j d)) (f d)
        go f (inr d) = let q : n ≡ j = omega arith in
            subst (λ (l : ℕ). digits (suc n) k l < s l) q (subst (λ (x : ℕ). x < s n) (sym (digits_here n k)) (mod-lt k (some n)))

    pub digits_value : (n k : ℕ) → k < span s 0 n → value s (digits n k) n ≡ k
    digits_value zero k h = omega arith
    digits_value (suc n) k h =
        let z : 0 + n ≡ n = omega arith in
        let h' : k < span s 0 n * s n = subst (λ (x : ℕ). k < span s 0 n * s x) z h in
        let a : value s (digits (suc n) k) n ≡ k / s n =
        value_same (digits n (k / s n)) (digits (suc n) k) n (λ j b. digits_below n k j b) ∙ digits_value n (k / s n) ((div-lt_iff_lt-mul (some n)).1 h') in
        ap₂ (λ (p q : ℕ). p * s n + q) a (digits_here n k) ∙ div-add-mod' k (s n)

-- ---- the first to fail

module _ {A : Type 0} (p : A → Bool) where
  -- those before place k pass, and the one there fails: it is the first to fail, with its place counted from 1
  pub first_at : (l : List A) (k : ℕ) (u : A) → ((j : ℕ) (x : A) → j < k → At x l j → p x ≡ true) → At u l k → p u ≡ false →
      first_failing p 1 l ≡ found (suc k) u
  first_at l k u h a f = go l 1 k h a ∙ ap (λ (i : ℕ). found i u) (omega arith)
    where
      go : (l : List A) (o k : ℕ) → ((j : ℕ) (x : A) → j < k → At x l j → p x ≡ true) → At u l k → first_failing p o l ≡ found (o + k) u
      go [] o _ h x'' = elim x'' [ ]
      go (x ∷ l) o zero h (at_here e) = rw (add-zero, ← e, f)
      go (x ∷ l) o (suc k) h (at_there a) =
          let e : suc o + k ≡ o + suc k = omega arith in
          rw (h 0 x (omega arith) (at_here refl)) (go l (suc o) k (λ j y c b. h (suc j) y (omega arith) (at_there b)) a ∙ ap (λ (i : ℕ). found i u) e)

  pub first_none : (l : List A) (o : ℕ) → ((j : ℕ) (x : A) → At x l j → p x ≡ true) → first_failing p o l ≡ nowhere
  first_none [] o h = refl
  first_none (x ∷ l) o h = rw (h 0 x (at_here refl)) (first_none l (suc o) (λ j y a. h (suc j) y (at_there a)))
