-- The numbers from one on: two runs of them, which are among them, what a function makes of them, a loop over them that stops where a test fails, and whether one of them passes a test.
use Prim.Native.Nat.{◌+◌, ◌-◌, ◌<◌, ◌≤◌, suc, zero, ℕ}
use mathlib.Core.Bool.{Bool, ◌&&◌, false, true}
use mathlib.Core.List.{List, [], ◌++◌, ◌∷◌, map}
use mathlib.Core.Logic.{◌⊎◌, inl, inr}
use mathlib.Core.Path.{◌∙◌, ◌≡◌, ap, ap₂, refl, sym}
use native.Mathlib.Numerals.{add-one}
use native.Mathlib.Omega.{arith}
use Rattle.meaning.specs.Lists.{All, ◌∈◌, all, any, cons, counting, here, nil, there}
use Rattle.meaning.specs.Records.{Name}
use Rattle.theory.proofs.Rules.{all_mono, any_at, any_in, any_out, at_any, is_true, order, same_test}

pub counting_append : (k m n : ℕ) → counting k (m + n) ≡ counting k m ++ counting (k + m) n
counting_append k zero n = rw (zero_add n) (ap (λ (i : ℕ). counting i n) (omega arith))
  where
    zero_add : (n : ℕ) → zero + n ≡ n
    zero_add n = omega arith
counting_append k (suc m) n =
    let e : suc m + n ≡ suc (m + n) = omega arith in
    let d : suc k + m ≡ k + suc m = omega arith in
    rw e (ap (λ (l : List ℕ). k ∷ l) (counting_append (suc k) m n ∙ ap (λ (i : ℕ). counting (suc k) m ++ counting i n) d))

pub in_counting : (k n z : ℕ) → k ≤ z → z < k + n → z ∈ counting k n
in_counting k zero z l h = absurd (omega arith)
in_counting k (suc n) z l h = go (in_counting (suc k) n z) (order k z)
  where
    go : (suc k ≤ z → z < suc k + n → z ∈ counting (suc k) n) → (k < z) ⊎ (z ≤ k) → z ∈ counting k (suc n)
    go f (inl d) = there (f d (omega arith))
    go f (inr d) = here {x = k} (omega arith)

-- one more, after the others
counting_within : (from n : ℕ) → All (λ x. (suc from ≤ x) × (x ≤ from + n)) (counting (suc from) n)
counting_within from zero = nil
counting_within from (suc n) =
    cons {x = suc from} (omega arith, omega arith) (all_mono (λ x h. (omega arith, omega arith)) (counting_within (suc from) n))

-- from 1 on they are names
pub counting_names : (n : ℕ) → All (Name n) (counting 1 n)
counting_names n = all_mono (λ x h. (omega arith, omega arith)) (counting_within 0 n)

pub counted_more : {A : Type 0} (f : ℕ → A) (n : ℕ) → map f (counting 0 (n + 1)) ≡ map f (counting 0 n) ++ (f n ∷ [])
counted_more {A} f n = rw (add-one n) (go 0 n ∙ ap (λ (x : ℕ). map f (counting 0 n) ++ (f x ∷ [])) (omega arith))
  where
    go : (o n : ℕ) → map f (counting o (suc n)) ≡ map f (counting o n) ++ (f (o + n) ∷ [])
    go o zero = ap (λ (x : ℕ). f x ∷ []) (omega arith)
    go o (suc n) = ap (λ (l : List A). f o ∷ l) (go (suc o) n ∙ ap (λ (x : ℕ). map f (counting (suc o) n) ++ (f x ∷ [])) (omega arith))

pub counted_same : {A : Type 0} (f g : ℕ → A) (o n : ℕ) → ((i : ℕ) → i < o + n → f i ≡ g i) → map f (counting o n) ≡ map g (counting o n)
counted_same f g o zero h = refl
counted_same {A} f g o (suc n) h = ap₂ (λ (x : A) (l : List A). x ∷ l) (h o (omega arith)) (counted_same f g (suc o) n (λ i l. h i (omega arith)))

-- a loop over 0 to before n that stops where a test fails has come to i
pub record Testing (p : ℕ → Bool) (n i : ℕ) : Type 0 where
  pub within : i ≤ n
  pub same : all p (counting 0 n) ≡ all p (counting i (n - i))

pub testing_starts : (p : ℕ → Bool) (n : ℕ) → Testing p n 0
testing_starts p n = let e : n - 0 ≡ n = omega arith in record { within = omega arith; same = rw e }

module _ {p : ℕ → Bool} {n i : ℕ} (t : Testing p n i) where
  pub testing_ends : n ≤ i → true ≡ all p (counting 0 n)
  testing_ends h = let e : n - i ≡ 0 = omega arith in sym (t.same ∙ rw e)

  module _ (h : i < n) where
    first : all p (counting 0 n) ≡ p i && all p (counting (i + 1) (n - (i + 1)))
    first =
        let e : n - i ≡ suc (n - (i + 1)) = omega arith in
        let d : suc i ≡ i + 1 = omega arith in
        t.same ∙ rw e (ap (λ (j : ℕ). p i && all p (counting j (n - (i + 1)))) d)

    pub testing_fails : p i ≡ false → false ≡ all p (counting 0 n)
    testing_fails e = sym (first ∙ rw e)

    pub testing_on : p i ≡ true → Testing p n (i + 1)
    testing_on e = record { within = omega arith; same = first ∙ rw e }

-- ---- whether one of them passes a test

module _ (p : ℕ → Bool) (n : ℕ) where
  pub some_below : (j : ℕ) → j < n → p j ≡ true → any p (counting 0 n) ≡ true
  some_below j h e = same_test (any p (counting 0 n)) true (λ _. tt) (λ _. any_in p (at_any (in_counting 0 n j (omega arith) (omega arith)) (is_true e)))

  pub none_below : ((j : ℕ) → j < n → p j ≡ false) → any p (counting 0 n) ≡ false
  none_below f = go 0 n (λ j h. f j (omega arith))
    where
      go : (o n : ℕ) → ((j : ℕ) → j < o + n → p j ≡ false) → any p (counting o n) ≡ false
      go o zero f = refl
      go o (suc n) f = rw (f o (omega arith)) (go (suc o) n (λ j h. f j (omega arith)))

  pub below_some : any p (counting 0 n) ≡ true → (j : ℕ) × (j < n) × (p j ≡ true)
  below_some e =
      let a = any_at (any_out p (counting 0 n) (is_true e)) in
      let b = counting_in 0 n a.1 in
      (a.0, omega arith, same_test (p a.0) true (λ _. tt) (λ _. a.2))
    where
      counting_in : (o n : ℕ) {z : ℕ} → z ∈ counting o n → z < o + n
      counting_in o zero {z = z} m = elim m [ ]
      counting_in o (suc n) (here e) = omega arith
      counting_in o (suc n) (there i) = let h = counting_in (suc o) n i in omega arith
