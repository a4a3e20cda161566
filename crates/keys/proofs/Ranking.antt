-- The place of a key among keys that rise, by halving.
use Prim.Native.Nat.{◌+◌, ◌-◌, ◌<◌, ◌≤◌, suc, zero, ℕ}
use mathlib.Core.List.{List, [], ◌∷◌}
use mathlib.Core.Logic.{◌⊎◌, inl, inr}
use mathlib.Core.Path.{◌∙◌, ◌≡◌, refl}
use native.Mathlib.Omega.{arith}
use lib.ListN.{get_or, length, length-take, take}
use lib.Seq.{get_or-take}
use Rattle.meaning.specs.Lists.{◌∈◌, here, there}
use Rattle.meaning.specs.Splitting.{Rising, Sorted}
use Rattle.keys.specs.Keys.{Ranked}
use Rattle.theory.proofs.Points.{above}
use Rattle.theory.proofs.Rules.{any_cases, any_none, order}

-- ---- by halving

-- the place lies from low to high: what stands before low is smaller, and what stands at high is not
pub record Halving (e : List ℕ) (n key low high : ℕ) : Type 0 where
  pub order : low ≤ high
  pub within : high ≤ n
  pub before : (j : ℕ) → low ≡ suc j → get_or e j 0 < key
  pub at : high < n → key ≤ get_or e high 0

pub halving_starts : {e : List ℕ} {n key : ℕ} → Halving e n key 0 n
halving_starts = record { order = omega arith; within = omega arith; before = λ j h. absurd (omega arith); at = λ h. absurd (omega arith) }

module _ {e : List ℕ} {n key low high : ℕ} (g : Halving e n key low high) where
  pub halving_ends : high ≤ low → Ranked e n key low
  halving_ends h =
      let z : low ≡ high = omega (arith, g.order) in
      record { within = omega (arith, g.within); before = g.before; at = rw z g.at }

  module _ {middle : ℕ} (a : low ≤ middle) (b : middle < high) where
    pub halving_up : get_or e middle 0 < key → Halving e n key (middle + 1) high
    halving_up h = record {
      order = omega arith;
      within = g.within;
      before = λ j i. let z : j ≡ middle = omega arith in rw z h;
      at = g.at;
    }

    pub halving_down : key ≤ get_or e middle 0 → Halving e n key low middle
    halving_down h = record { order = a; within = omega (arith, g.within); before = g.before; at = λ i. h }

-- ---- places in a rising list

pub get_or_in : (l : List ℕ) (j : ℕ) → j < length l → get_or l j 0 ∈ l
get_or_in [] j h = absurd (omega arith)
get_or_in (x ∷ l) zero h = here refl
get_or_in (x ∷ l) (suc j) h = there (get_or_in l j (omega arith))

in_get_or : (l : List ℕ) {z : ℕ} → z ∈ l → (j : ℕ) × (j < length l) × (z ≡ get_or l j 0)
in_get_or [] m = absurd (any_none m)
in_get_or (x ∷ l) {z} m = go (λ i. in_get_or l i) (any_cases m)
  where
    go : (z ∈ l → (j : ℕ) × (j < length l) × (z ≡ get_or l j 0)) → (z ≡ x) ⊎ (z ∈ l) → (j : ℕ) × (j < suc (length l)) × (z ≡ get_or (x ∷ l) j 0)
    go f (inl e) = (0, omega arith, e)
    go f (inr i) = let r = f i in (suc r.0, omega (arith, r.1), r.2)

pub rising_tail : (x : ℕ) (l : List ℕ) → Rising x l → Sorted l
rising_tail x [] r = tt
rising_tail x (y ∷ l) r = r.1

ascending : (l : List ℕ) → Sorted l → (i j : ℕ) → i < j → j < length l → get_or l i 0 < get_or l j 0
ascending [] s i j a b = absurd (omega arith)
ascending (x ∷ l) s i zero a b = absurd (omega arith)
ascending (x ∷ l) s zero (suc j) a b = above x l s (get_or_in l j (omega arith))
ascending (x ∷ l) s (suc i) (suc j) a b = ascending l (rising_tail x l s) i j (omega arith) (omega arith)

module _ {e : List ℕ} {n key r : ℕ} (s : Sorted (take n e)) (b : n ≤ length e) (k : Ranked e n key r) where
  rise : (i j : ℕ) → i < j → j < n → get_or e i 0 < get_or e j 0
  rise i j h m =
      rw (get_or-take n e i 0 (omega arith), get_or-take n e j 0 m) at (ascending (take n e) s i j h (rw length-take (omega arith)))

  -- all before the place are smaller
  pub smaller : (j : ℕ) → j < r → get_or e j 0 < key
  smaller j h = go r refl (order j (r - 1))
    where
      go : (m : ℕ) → r ≡ m → (j < r - 1) ⊎ (r - 1 ≤ j) → get_or e j 0 < key
      go zero z o = absurd (omega arith)
      go (suc m) z (inl o) = let w = k.within in omega (arith, k.before m z, rise j m (omega arith) (omega arith))
      go (suc m) z (inr o) = let i : j ≡ m = omega arith in rw i (k.before m z)

  -- what is not smaller stands at it or after it
  pub nearest : {z : ℕ} → z ∈ take n e → key ≤ z → (r < n) × (get_or e r 0 ≤ z)
  nearest {z} m h =
      let i = in_get_or (take n e) m in
      let l : i.0 < n = omega (arith, i.1, length-take n e) in
      go i.0 l (i.2 ∙ get_or-take n e i.0 0 l) (order i.0 r) (order r i.0)
    where
      go : (j : ℕ) → j < n → z ≡ get_or e j 0 → (j < r) ⊎ (r ≤ j) → (r < j) ⊎ (j ≤ r) → (r < n) × (get_or e r 0 ≤ z)
      go j l q (inl o) p = absurd (omega (arith, smaller j o))
      go j l q (inr o) (inl p) = (omega arith, omega (arith, rise r j p l))
      go j l q (inr o) (inr p) = let i : r ≡ j = omega arith in rw i (l, omega arith)
