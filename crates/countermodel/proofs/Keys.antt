-- A pair as one number: by feature, then by value, where B is above every value. The pairs of a list are its keys, rising.
use Prim.Native.Nat.{◌*◌, ◌+◌, ◌<◌, ◌≤◌, suc, ℕ}
use mathlib.Core.Bool.{Bool, cond, false, true}
use mathlib.Core.List.{List, [], ◌∷◌, map}
use mathlib.Core.Logic.{◌⊎◌, inl, inr}
use mathlib.Core.Path.{◌∙◌, ◌≡◌, ap, ap₂, refl, subst, sym}
use native.Mathlib.Nat.{mul-le-mul_right, suc-mul}
use native.Mathlib.Omega.{arith}
use lib.Dec.{ltb}
use borrow.Author.Tests.{eq-eqb, le-ltb, lt-ltb, ltb-false, ltb-true, ne_eqb}
use Rattle.countermodel.specs.Facts.{value_fact}
use Rattle.meaning.specs.Countermodel.{insert_pair, pair_before, pairs, same_pair}
use Rattle.meaning.specs.Intervals.{Constraint, value_of}
use Rattle.meaning.specs.Lists.{All, ◌∈◌, filter, here}
use Rattle.meaning.specs.Model.{Fact, value}
use Rattle.theory.proofs.Pairs.{pairs_in_lem, pairs_out}
use Rattle.theory.proofs.Rules.{all_at, all_map, all_of, any_map, any_mono, head, order, tail}
use Rattle.words.proofs.Lists.{Rising, above_first, above_least, above_rest, filter_from}

-- ---- rising numbers above c

pub least_above : (L : List ℕ) (c z : ℕ) → Rising 0 L → z ∈ L → c < z → All (λ y. c < y → z ≤ y) L → filter (ltb c) L ≡ z ∷ filter (ltb z) L
least_above L c z r m h least =
    let a = above_least c 0 L z r m h in
    let first = above_first c L a.0 a.1 a.2 in
    let inside = filter_from (ltb c) a.0 L (subst (λ (l : List ℕ). a.0 ∈ l) (sym a.2) (here refl)) in
    let no = all_at least inside first in
    let same : a.0 ≡ z = omega (arith, a.3) in
    a.2 ∙ ap₂ (λ (y : ℕ) (l : List ℕ). y ∷ l) same (above_rest c 0 L a.0 a.1 r a.2 ∙ ap (λ (y : ℕ). filter (ltb y) L) same)

pub none_above : (L : List ℕ) (c : ℕ) → All (λ y. c < y → ⊥) L → filter (ltb c) L ≡ []
none_above [] c h = refl
none_above (y ∷ L) c h = go (ltb c y) refl (none_above L c (tail h))
  where
    go : (b : Bool) → ltb c y ≡ b → filter (ltb c) L ≡ [] → cond b (y ∷ filter (ltb c) L) (filter (ltb c) L) ≡ []
    go true e ih = absurd (head h (ltb-true c y e))
    go false e ih = ih

-- ---- the key of a pair

module _ (B : ℕ) where
  abbrev pub key : Constraint → ℕ
  key s = suc (s.feature * B + value_of s)

  abbrev pub Low : Constraint → Type 0
  Low s = value_of s < B

  -- a smaller feature's keys are smaller
  apart : (s t : Constraint) → Low s → s.feature < t.feature → key s < key t
  apart s t h l =
      let more : suc s.feature * B ≤ t.feature * B = mul-le-mul_right B l in
      omega (arith, suc-mul s.feature B)

  module _ (s t : Constraint) (hs : Low s) (ht : Low t) where
    pub before_key : pair_before s t ≡ ltb (key s) (key t)
    before_key = go (order s.feature t.feature) (order t.feature s.feature)
      where
        go : (s.feature < t.feature) ⊎ (t.feature ≤ s.feature) → (t.feature < s.feature) ⊎ (s.feature ≤ t.feature) →
            pair_before s t ≡ ltb (key s) (key t)
        go (inl l) d = rw (lt-ltb s.feature t.feature l) (sym (lt-ltb (key s) (key t) (apart s t hs l)))
        go (inr l) (inl g) =
            let h = apart t s ht g in
            rw (le-ltb s.feature t.feature l, ne_eqb s.feature t.feature (λ p. omega arith)) (sym (le-ltb (key s) (key t) (omega arith)))
        go (inr l) (inr g) =
            let e : s.feature ≡ t.feature = omega arith in
            rw (le-ltb s.feature t.feature l, eq-eqb s.feature t.feature e) (values (order (value_of s) (value_of t)) (ap (λ (f : ℕ). f * B) e))
          where
            values : (value_of s < value_of t) ⊎ (value_of t ≤ value_of s) → s.feature * B ≡ t.feature * B → ltb (value_of s) (value_of t) ≡ ltb (key s) (key t)
            values (inl l) e = lt-ltb (value_of s) (value_of t) l ∙ sym (lt-ltb (key s) (key t) (omega arith))
            values (inr l) e = le-ltb (value_of s) (value_of t) l ∙ sym (le-ltb (key s) (key t) (omega arith))

    -- a key is of one pair
    pub key_one : key s ≡ key t → (s.feature ≡ t.feature) × (value_of s ≡ value_of t)
    key_one e = go (order s.feature t.feature) (order t.feature s.feature)
      where
        go : (s.feature < t.feature) ⊎ (t.feature ≤ s.feature) → (t.feature < s.feature) ⊎ (s.feature ≤ t.feature) →
            (s.feature ≡ t.feature) × (value_of s ≡ value_of t)
        go (inl l) d = absurd (let h = apart s t hs l in omega arith)
        go (inr l) (inl g) = absurd (let h = apart t s ht g in omega arith)
        go (inr l) (inr g) =
            let f : s.feature ≡ t.feature = omega arith in
            let m = ap (λ (x : ℕ). x * B) f in
            (f, omega arith)

  -- a pair that is neither the same nor before stands after
  behind : (s t : Constraint) → Low s → Low t → same_pair s t ≡ false → pair_before s t ≡ false → key t < key s
  behind s t hs ht p q =
      go (order (key t) (key s))
    where
      differ : key s ≡ key t → ⊥
      differ e =
          let o = key_one s t hs ht e in
          let z : ◌≡◌ {A = Bool} true false = sym (rw (eq-eqb s.feature t.feature o.0, eq-eqb (value_of s) (value_of t) o.1)) ∙ p in
          let y : ◌≡◌ {A = ℕ} 0 1 = cc in omega arith

      go : (key t < key s) ⊎ (key s ≤ key t) → key t < key s
      go (inl h) = h
      go (inr h) = absurd (let l = ltb-false (key s) (key t) (sym (before_key s t hs ht) ∙ q) in differ (omega arith))

  insert_rising : (k : ℕ) (s : Constraint) (l : List Constraint) → k < key s → Low s → All Low l → Rising k (map key l) → Rising k (map key (insert_pair s l))
  insert_rising k s [] h b a r = (h, tt)
  insert_rising k s (t ∷ l) h b a r =
      go (same_pair s t) (pair_before s t) refl refl (λ g. insert_rising (key t) s l g b (tail a) r.1)
    where
      go : (p q : Bool) → same_pair s t ≡ p → pair_before s t ≡ q → (key t < key s → Rising (key t) (map key (insert_pair s l))) →
          Rising k (map key (cond p (t ∷ l) (cond q (s ∷ (t ∷ l)) (t ∷ insert_pair s l))))
      go true q d e ih = r
      go false true d e ih = (h, (ltb-true (key s) (key t) (sym (before_key s t b (head a)) ∙ e), r.1))
      go false false d e ih = (r.0, ih (behind s t b (head a) d e))

  pub pairs_low : (l : List Constraint) → All Low l → All Low (pairs l)
  pairs_low l h = pairs_in_lem (λ f v. v < B) l h

  pub pairs_rising : (l : List Constraint) → All Low l → Rising 0 (map key (pairs l))
  pairs_rising [] h = tt
  pairs_rising (s ∷ l) h = insert_rising 0 s (pairs l) (omega arith) (head h) (pairs_low l (tail h)) (pairs_rising l (tail h))

  -- each pair of the list has its key there, and a law of the list's keys is one of theirs
  pub pairs_have : (l : List Constraint) → All (λ s. key s ∈ map key (pairs l)) l
  pairs_have l = pairs_out (λ f v. suc (f * B + v) ∈ map key (pairs l)) l (all_of (pairs l) (λ s m. any_map key (any_mono (λ t e. ap key e) m)))

  pub pairs_only : (P : ℕ → Type 0) (l : List Constraint) → All (λ s. P (key s)) l → All P (map key (pairs l))
  pairs_only P l h = all_map key (pairs_in_lem (λ f v. P (suc (f * B + v))) l h)

  -- ---- lists with the same keys state the same facts

  pub same_facts : (x : ℕ) (l m : List Constraint) → All Low l → All Low m → map key l ≡ map key m → map (value_fact x) l ≡ map (value_fact x) m
  same_facts x [] [] h g e = refl
  same_facts x [] (t ∷ m) h g e = absurd (let z : ◌≡◌ {A = ℕ} 0 1 = cc in omega arith)
  same_facts x (s ∷ l) [] h g e = absurd (let z : ◌≡◌ {A = ℕ} 0 1 = cc in omega arith)
  same_facts x (s ∷ l) (t ∷ m) h g e =
      let first : key s ≡ key t = cc in
      let later : map key l ≡ map key m = cc in
      let o = key_one s t (head h) (head g) first in
      ap₂ (λ (y : Fact) (r : List Fact). y ∷ r) (ap₂ (λ (f v : ℕ). value f x v) o.0 o.1) (same_facts x l m (tail h) (tail g) later)
