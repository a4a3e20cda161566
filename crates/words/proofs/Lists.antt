-- Lists of numbers that rise, filters of them, and what stands above a number. Assumes nothing.
use Prim.Native.Nat.{◌%◌, ◌+◌, ◌/◌, ◌<◌, ◌≤◌, suc, zero, ℕ}
use lib.Count.{ones_in}
use lib.Dec.{eqb, ltb}
use lib.ListN.{length}
use mathlib.Core.Bool.{Bool, cond, false, true}
use mathlib.Core.List.{List, [], ◌∷◌}
use mathlib.Core.Path.{◌∙◌, ◌≡◌, ap, ap₂, refl, sym}
use native.Mathlib.Omega.{arith}
use borrow.Author.Tests.{eqb-false, eqb-true, le-ltb, lt-ltb, ltb-false, ltb-true}
use Rattle.meaning.specs.Lists.{◌∈◌, counting, filter, here, there}
use Rattle.words.proofs.Bits.{bit_suc, bit_zero}
use Rattle.words.specs.Sets.{test_bit}

-- all of the list is above k, and each element above the one before
abbrev pub Rising : ℕ → List ℕ → Type 0
Rising k [] = Unit {0}
Rising k (x ∷ l) = (k < x) × Rising x l

-- ---- filters of a filter

module _ (p q : ℕ → Bool) where
  pub filter_none : ((x : ℕ) → p x ≡ true → q x ≡ false) → (l : List ℕ) → filter q (filter p l) ≡ []
  filter_none h [] = refl
  filter_none h (x ∷ l) = go (p x) refl (filter_none h l)
    where
      go : (b : Bool) → p x ≡ b → filter q (filter p l) ≡ [] → filter q (cond b (x ∷ filter p l) (filter p l)) ≡ []
      go true t e = rw (h x t) e
      go false t e = e

  pub filter_same : (r : ℕ → Bool) → ((x : ℕ) → p x ≡ true → q x ≡ r x) → (l : List ℕ) → filter q (filter p l) ≡ filter r (filter p l)
  filter_same r h [] = refl
  filter_same r h (x ∷ l) = go (p x) refl (filter_same r h l)
    where
      go : (b : Bool) → p x ≡ b → filter q (filter p l) ≡ filter r (filter p l)
          → filter q (cond b (x ∷ filter p l) (filter p l)) ≡ filter r (cond b (x ∷ filter p l) (filter p l))
      go true t e = rw (h x t, e)
      go false t e = e

-- what fails past n numbers, and is another test on them
pub filter_within : (p q : ℕ → Bool) (k n s : ℕ) → n ≤ s → ((x : ℕ) → k ≤ x → x < k + n → p x ≡ q x) → ((x : ℕ) → k + n ≤ x → p x ≡ false)
    → filter p (counting k s) ≡ filter q (counting k n)
filter_within p q k zero zero l h g = refl
filter_within p q k zero (suc s) l h g =
    rw (g k (omega arith)) (filter_within p q (suc k) zero s (omega arith) (λ x a b. absurd (omega arith)) (λ x a. g x (omega arith)))
filter_within p q k (suc n) zero l h g = absurd (omega arith)
filter_within p q k (suc n) (suc s) l h g =
    let rest = filter_within p q (suc k) n s (omega arith) (λ x a b. h x (omega arith) (omega arith)) (λ x a. g x (omega arith)) in
    rw (h k (omega arith) (omega arith), rest)

-- ---- what a filter has

module _ (p : ℕ → Bool) (z : ℕ) where
  pub filter_in : (l : List ℕ) → z ∈ filter p l → p z ≡ true
  filter_in [] i = elim i [ ]
  filter_in (x ∷ l) i = go (p x) refl (filter_in l) i
    where
      go : (b : Bool) → p x ≡ b → (z ∈ filter p l → p z ≡ true) → z ∈ cond b (x ∷ filter p l) (filter p l) → p z ≡ true
      go true t ih (here e) = ap p e ∙ t
      go true t ih (there i) = ih i
      go false t ih i = ih i

  pub filter_from : (l : List ℕ) → z ∈ filter p l → z ∈ l
  filter_from [] i = elim i [ ]
  filter_from (x ∷ l) i = go (p x) (filter_from l) i
    where
      go : (b : Bool) → (z ∈ filter p l → z ∈ l) → z ∈ cond b (x ∷ filter p l) (filter p l) → z ∈ x ∷ l
      go true ih (here e) = here e
      go true ih (there i) = there (ih i)
      go false ih i = there (ih i)

  pub in_filter : (l : List ℕ) → p z ≡ true → z ∈ l → z ∈ filter p l
  in_filter [] t x'' = elim x'' [ ]
  in_filter (x ∷ l) t (here e) = rw (sym (ap p e) ∙ t) (here e)
  in_filter (x ∷ l) t (there i) = go (p x) (in_filter l t i)
    where
      go : (b : Bool) → z ∈ filter p l → z ∈ cond b (x ∷ filter p l) (filter p l)
      go true i = there i
      go false i = i

-- ---- how many of a count pass a test

module _ (p : ℕ → Bool) where
  pub tally_most : (k n : ℕ) → length (filter p (counting k n)) ≤ n
  tally_most k zero = omega arith
  tally_most k (suc n) = go (p k) (tally_most (suc k) n)
    where
      go : (b : Bool) → length (filter p (counting (suc k) n)) ≤ n
          → length (cond b (k ∷ filter p (counting (suc k) n)) (filter p (counting (suc k) n))) ≤ suc n
      go true e = omega arith
      go false e = omega arith

  pub tally_add : (k m n j s : ℕ) → j ≡ k + m → s ≡ m + n
      → length (filter p (counting k s)) ≡ length (filter p (counting k m)) + length (filter p (counting j n))
  tally_add k zero n j s e f =
      let from : k ≡ j = omega arith in
      let many : s ≡ n = omega arith in
      let same = ap₂ (λ (i t : ℕ). length (filter p (counting i t))) from many in
      omega arith
  tally_add k (suc m) n j zero e f = absurd (omega arith)
  tally_add k (suc m) n j (suc s) e f = go (p k) (tally_add (suc k) m n j s (omega arith) (omega arith))
    where
      go : (b : Bool) → length (filter p (counting (suc k) s)) ≡ length (filter p (counting (suc k) m)) + length (filter p (counting j n))
          → length (cond b (k ∷ filter p (counting (suc k) s)) (filter p (counting (suc k) s)))
          ≡ length (cond b (k ∷ filter p (counting (suc k) m)) (filter p (counting (suc k) m))) + length (filter p (counting j n))
      go true e = omega arith
      go false e = e

  pub tally_shift : (q : ℕ → Bool) (k m n : ℕ) → ((x y : ℕ) → k ≤ x → x + m ≡ y + k → p x ≡ q y)
      → length (filter p (counting k n)) ≡ length (filter q (counting m n))
  tally_shift q k m zero h = refl
  tally_shift q k m (suc n) h =
      go (p k) (q m) (h k m (omega arith) (omega arith)) (tally_shift q (suc k) (suc m) n (λ x y l e. h x y (omega arith) (omega arith)))
    where
      go : (b d : Bool) → b ≡ d → length (filter p (counting (suc k) n)) ≡ length (filter q (counting (suc m) n))
          → length (cond b (k ∷ filter p (counting (suc k) n)) (filter p (counting (suc k) n)))
          ≡ length (cond d (m ∷ filter q (counting (suc m) n)) (filter q (counting (suc m) n)))
      go true true t e = ap suc e
      go false false t e = e
      go true false t e = absurd (let z : ◌≡◌ {A = ℕ} 0 1 = cc in omega arith)
      go false true t e = absurd (let z : ◌≡◌ {A = ℕ} 0 1 = cc in omega arith)

  pub tally_ones : (d w k : ℕ) → ((j x : ℕ) → j < d → x ≡ k + j → p x ≡ test_bit w j) → length (filter p (counting k d)) ≡ ones_in d w
  unfolding ones_in
  tally_ones zero w k h = refl
  tally_ones (suc d) w k h =
      go (p k) (h 0 k (omega arith) (omega arith) ∙ bit_zero w)
      (tally_ones d (w / 2) (suc k) (λ j x l e. h (suc j) x (omega arith) (omega arith) ∙ bit_suc w j))
    where
      go : (b : Bool) → b ≡ eqb (w % 2) 1 → length (filter p (counting (suc k) d)) ≡ ones_in d (w / 2)
          → length (cond b (k ∷ filter p (counting (suc k) d)) (filter p (counting (suc k) d))) ≡ w % 2 + ones_in d (w / 2)
      go true t e = let o = eqb-true (w % 2) 1 (sym t) in omega arith
      go false t e = let o = eqb-false (w % 2) 1 (sym t) in omega arith

-- ---- rising lists

rising_from : (j k : ℕ) (l : List ℕ) → j ≤ k → Rising k l → Rising j l
rising_from j k [] h r = tt
rising_from j k (x ∷ l) h r = (omega arith, r.1)

pub rising_counting : (k n : ℕ) → Rising k (counting (suc k) n)
rising_counting k zero = tt
rising_counting k (suc n) = (omega arith, rising_counting (suc k) n)

pub rising_filter : (p : ℕ → Bool) (k : ℕ) (l : List ℕ) → Rising k l → Rising k (filter p l)
rising_filter p k [] r = tt
rising_filter p k (x ∷ l) r = go (p x) (rising_filter p x l r.1)
  where
    go : (b : Bool) → Rising x (filter p l) → Rising k (cond b (x ∷ filter p l) (filter p l))
    go true s = (r.0, s)
    go false s = rising_from k x (filter p l) (omega arith) s

rising_above : (k : ℕ) (l : List ℕ) (z : ℕ) → Rising k l → z ∈ l → k < z
rising_above k [] z r x'' = elim x'' [ ]
rising_above k (x ∷ l) z r (here e) = omega arith
rising_above k (x ∷ l) z r (there i) = let h = rising_above x l z r.1 i in omega arith

-- ---- what stands above c

pub above_all : (c k : ℕ) (l : List ℕ) → c ≤ k → Rising k l → filter (ltb c) l ≡ l
above_all c k [] h r = refl
above_all c k (x ∷ l) h r = rw (lt-ltb c x (omega arith), above_all c x l (omega arith) r.1)

pub above_first : (c : ℕ) (l : List ℕ) (x : ℕ) (m : List ℕ) → filter (ltb c) l ≡ x ∷ m → c < x
above_first c [] x m e = absurd (let z : ◌≡◌ {A = ℕ} 0 1 = cc in omega arith)
above_first c (y ∷ l) x m e = go (ltb c y) refl (above_first c l x m) e
  where
    go : (b : Bool) → ltb c y ≡ b → (filter (ltb c) l ≡ x ∷ m → c < x) → cond b (y ∷ filter (ltb c) l) (filter (ltb c) l) ≡ x ∷ m → c < x
    go true t ih e = let q : y ≡ x = cc in let h = ltb-true c y t in omega arith
    go false t ih e = ih e

-- after the first come those above it
pub above_rest : (c k : ℕ) (l : List ℕ) (x : ℕ) (m : List ℕ) → Rising k l → filter (ltb c) l ≡ x ∷ m → m ≡ filter (ltb x) l
above_rest c k [] x m r e = absurd (let z : ◌≡◌ {A = ℕ} 0 1 = cc in omega arith)
above_rest c k (y ∷ l) x m r e = go (ltb c y) refl (above_rest c y l x m r.1) e
  where
    go : (b : Bool) → ltb c y ≡ b → (filter (ltb c) l ≡ x ∷ m → m ≡ filter (ltb x) l)
        → cond b (y ∷ filter (ltb c) l) (filter (ltb c) l) ≡ x ∷ m → m ≡ filter (ltb x) (y ∷ l)
    go true t ih e =
        let h = ltb-true c y t in
        let q : y ≡ x = cc in
        let here_on : filter (ltb c) l ≡ m = cc in
        sym here_on ∙ above_all c y l (omega arith) r.1 ∙ sym (above_all x y l (omega arith) r.1) ∙ rw (le-ltb x y (omega arith))
    go false t ih e =
        let h = ltb-false c y t in
        let g = above_first c l x m e in
        ih e ∙ rw (le-ltb x y (omega arith))

-- an element above c: the first above c is no greater
pub above_least : (c k : ℕ) (l : List ℕ) (z : ℕ) → Rising k l → z ∈ l → c < z
    → (x : ℕ) × (m : List ℕ) × (filter (ltb c) l ≡ x ∷ m) × (x ≤ z)
above_least c k [] z r x3 h = elim x3 [ ]
above_least c k (y ∷ l) z r (here e) h = (y, filter (ltb c) l, rw (lt-ltb c y (omega arith)), omega arith)
above_least c k (y ∷ l) z r (there i) h = go (ltb c y) refl (above_least c y l z r.1 i h)
  where
    go : (b : Bool) → ltb c y ≡ b → (x : ℕ) × (m : List ℕ) × (filter (ltb c) l ≡ x ∷ m) × (x ≤ z)
        → (x : ℕ) × (m : List ℕ) × (cond b (y ∷ filter (ltb c) l) (filter (ltb c) l) ≡ x ∷ m) × (x ≤ z)
    go true t ih = let g = rising_above y l z r.1 i in (y, filter (ltb c) l, refl, omega arith)
    go false t ih = ih
