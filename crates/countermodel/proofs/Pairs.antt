-- The pairs of an individual's pieces, each found from the one before.
use Prim.Native.Nat.{◌+◌, ◌<◌, ◌≤◌, suc, zero, ℕ}
use mathlib.Core.Bool.{Bool, ◌&&◌, cond, false, true}
use mathlib.Core.List.{List, [], ◌∷◌, map}
use mathlib.Core.Logic.{◌⊎◌, inl, inr}
use mathlib.Core.Path.{◌∙◌, ◌≡◌, ap, refl, subst, sym}
use native.Mathlib.Omega.{arith}
use lib.Dec.{eqb, ltb}
use lib.ListN.{get_or}
use borrow.Author.Tests.{eq-eqb, eqb-false, eqb-true, lt-ltb, ltb-false, ltb-true}
use Rattle.std.specs.Option.{IfSome, IsSomeAnd}
use Rattle.std.specs.Prelude.{None, Option, Some}
use Rattle.countermodel.proofs.Keys.{Low, before_key, key, least_above, none_above, pairs_have, pairs_low, pairs_only, pairs_rising}
use Rattle.countermodel.proofs.Keys.{same_facts}
use Rattle.countermodel.specs.Facts.{is_above, is_better, is_under, pairs_above, value_fact, value_facts, values_from}
use Rattle.layout.specs.Combination.{chosen_from, pieces_from, pieces_of}
use Rattle.layout.specs.Places.{constraint_place}
use Rattle.layout.specs.Tables.{HasEntries, HasEntry, holder_at, piece_at}
use Rattle.meaning.specs.Countermodel.{pairs}
use Rattle.meaning.specs.Intervals.{Constraint, value_of}
use Rattle.meaning.specs.Lists.{All, ◌∈◌, cons, filter, here, nil, there}
use Rattle.meaning.specs.Model.{Fact}
use Rattle.theory.proofs.Rules.{all_at, head, order, tail}
use Rattle.words.specs.Sets.{word_sum}

-- a number above every word
within : (ws : List ℕ) (k : ℕ) → get_or ws k 0 ≤ word_sum ws
unfolding word_sum
within [] k = omega arith
within (x ∷ ws) zero = omega arith
within (x ∷ ws) (suc k) = omega (arith, within ws k)

all_filter : {P : Constraint → Type 0} (p : Constraint → Bool) (l : List Constraint) → All P l → All P (filter p l)
all_filter p [] h = nil
all_filter {P} p (s ∷ l) h = go (p s) (all_filter p l (tail h))
  where
    go : (b : Bool) → All P (filter p l) → All P (cond b (s ∷ filter p l) (filter p l))
    go true r = cons (head h) r
    go false r = r

-- ---- the pieces of individual x are those of its constraints

module _ (w : List ℕ) (x : ℕ) where
  piece_in : (left m j : ℕ) → m ≤ j → j < m + left → holder_at w j ≡ x → piece_at w j ∈ pieces_from w x left m
  unfolding chosen_from
  piece_in zero m j a b h = absurd (omega arith)
  piece_in (suc left) m j a b h = go (eqb (holder_at w m) x) refl (order m j) (λ c. piece_in left (suc m) j c (omega arith) h)
    where
      go : (t : Bool) → eqb (holder_at w m) x ≡ t → (m < j) ⊎ (j ≤ m) → (m < j → piece_at w j ∈ pieces_from w x left (suc m)) →
          piece_at w j ∈ cond t (piece_at w m ∷ pieces_from w x left (suc m)) (pieces_from w x left (suc m))
      go true e (inl c) f = there (f c)
      go false e (inl c) f = f c
      go true e (inr c) f = let q : j ≡ m = omega arith in here (ap (piece_at w) q)
      go false e (inr c) f =
          let q : j ≡ m = omega arith in
          absurd (eqb-false (holder_at w m) x e (ap (holder_at w) (sym q) ∙ h))

  piece_out : (P : Constraint → Type 0) (left m : ℕ) → ((j : ℕ) → m ≤ j → j < m + left → holder_at w j ≡ x → P (piece_at w j)) → All P (pieces_from w x left m)
  unfolding chosen_from
  piece_out P zero m f = nil
  piece_out P (suc left) m f =
      go (eqb (holder_at w m) x) refl (piece_out P left (suc m) (λ j a b. f j (omega arith) (omega arith)))
    where
      go : (t : Bool) → eqb (holder_at w m) x ≡ t → All P (pieces_from w x left (suc m)) →
          All P (cond t (piece_at w m ∷ pieces_from w x left (suc m)) (pieces_from w x left (suc m)))
      go true e r = cons (f m (omega arith) (omega arith) (eqb-true (holder_at w m) x e)) r
      go false e r = r

-- one of n constraints has a row
pub inside : (w : List ℕ) (n : ℕ) (m : Option ℕ) → HasEntries n w → IfSome m (λ k. k < n) → IfSome m (λ k. HasEntry k w)
inside w n None h l = tt
inside w n (Some k) h l = (omega (arith, h.0, l), h.1)

-- ---- the least pair above constraint m's, among n constraints

module _ (w : List ℕ) where
  abbrev B : ℕ
  B = suc (word_sum w)

  abbrev key_at : ℕ → ℕ
  key_at j = key B (piece_at w j)

  low : (j : ℕ) → Low B (piece_at w j)
  unfolding piece_at value_of
  low j = omega (arith, within w (constraint_place j + 5))

  -- what is above constraint m's pair has a key above this one
  abbrev floor : Option ℕ → ℕ
  floor None = 0
  floor (Some m) = key_at m

  above_floor : (m : Option ℕ) (s : Constraint) → Low B s → is_above w m s ≡ ltb (floor m) (key B s)
  above_floor None s h = sym (lt-ltb 0 (key B s) (omega arith))
  above_floor (Some m) s h = before_key B (piece_at w m) s (low m) h

  filter_floor : (m : Option ℕ) (l : List Constraint) → All (Low B) l → map (key B) (filter (is_above w m) l) ≡ filter (ltb (floor m)) (map (key B) l)
  filter_floor m [] h = refl
  filter_floor m (s ∷ l) h = rw (above_floor m s (head h)) (go (ltb (floor m) (key B s)) (filter_floor m l (tail h)))
    where
      go : (b : Bool) → map (key B) (filter (is_above w m) l) ≡ filter (ltb (floor m)) (map (key B) l) →
          map (key B) (cond b (s ∷ filter (is_above w m) l) (filter (is_above w m) l))
          ≡ cond b (key B s ∷ filter (ltb (floor m)) (map (key B) l)) (filter (ltb (floor m)) (map (key B) l))
      go true e = ap (λ (k : List ℕ). key B s ∷ k) e
      go false e = e

  -- of the first i constraints, b is the best: individual x's, above m's pair, and no other such pair is less
  pub record Best (n x : ℕ) (m : Option ℕ) (i : ℕ) (b : Option ℕ) : Type 0 where
    pub some : IfSome b (λ k. (k < n) × (holder_at w k ≡ x) × (floor m < key_at k))
    pub least : (j : ℕ) → j < i → holder_at w j ≡ x → floor m < key_at j → IsSomeAnd b (λ k. key_at k ≤ key_at j)

  module _ (n x : ℕ) (m : Option ℕ) where
    pub best_start : Best n x m 0 None
    best_start = record { some = tt; least = λ j h. absurd (omega arith) }

    pub best_inside : (i : ℕ) (b : Option ℕ) → Best n x m i b → IfSome b (λ k. k < n)
    best_inside i None h = tt
    best_inside i (Some k) h = h.some.0

    module _ (i : ℕ) where
      -- constraint i is not before the best
      not_under : (b : Option ℕ) → is_under w (piece_at w i) b ≡ false → IsSomeAnd b (λ k. key_at k ≤ key_at i)
      not_under None e = absurd (let y : ◌≡◌ {A = ℕ} 0 1 = cc in omega arith)
      not_under (Some k) e = ltb-false (key_at i) (key_at k) (sym (before_key B (piece_at w i) (piece_at w k) (low i) (low k)) ∙ e)

      -- it is before the best, which is before others
      under : (b : Option ℕ) (j : ℕ) → is_under w (piece_at w i) b ≡ true → IsSomeAnd b (λ k. key_at k ≤ key_at j) → key_at i ≤ key_at j
      under None j e h = absurd h
      under (Some k) j e h =
          let f = ltb-true (key_at i) (key_at k) (sym (before_key B (piece_at w i) (piece_at w k) (low i) (low k)) ∙ e) in
          omega (arith, h)

      pub best_kept : (b : Option ℕ) → Best n x m i b → is_better w x m b i ≡ false → Best n x m (i + 1) b
      best_kept b h e = record { some = h.some; least = λ j l q f. go j l q f (order j i) }
        where
          last : holder_at w i ≡ x → floor m < key_at i → IsSomeAnd b (λ k. key_at k ≤ key_at i)
          last q f = not_under b (rw (eq-eqb (holder_at w i) x q, above_floor m (piece_at w i) (low i), lt-ltb (floor m) (key_at i) f) at e)

          go : (j : ℕ) → j < i + 1 → holder_at w j ≡ x → floor m < key_at j → (j < i) ⊎ (i ≤ j) → IsSomeAnd b (λ k. key_at k ≤ key_at j)
          go j l q f (inl d) = h.least j d q f
          go j l q f (inr d) =
              let e : i ≡ j = omega arith in
              subst (λ (c : ℕ). IsSomeAnd b (λ k. key_at k ≤ key_at c)) e (last (ap (holder_at w) e ∙ q) (subst (λ (k : ℕ). floor m < key_at k) (sym e) f))

      pub best_new : (b : Option ℕ) → Best n x m i b → is_better w x m b i ≡ true → i < n → Best n x m (i + 1) (Some i)
      best_new b h e l =
          let t = split (eqb (holder_at w i) x) (is_above w m (piece_at w i)) (is_under w (piece_at w i) b) e in
          let own = eqb-true (holder_at w i) x t.0 in
          let above = ltb-true (floor m) (key_at i) (sym (above_floor m (piece_at w i) (low i)) ∙ t.1) in
          record { some = (l, own, above); least = λ j p q f. go j (order j i) p q f t.2 }
        where
          split : (p q r : Bool) → (p && (q && r)) ≡ true → (p ≡ true) × (q ≡ true) × (r ≡ true)
          split true true true e = (refl, refl, refl)
          split true true false e = absurd (let y : ◌≡◌ {A = ℕ} 0 1 = cc in omega arith)
          split true false r e = absurd (let y : ◌≡◌ {A = ℕ} 0 1 = cc in omega arith)
          split false q r e = absurd (let y : ◌≡◌ {A = ℕ} 0 1 = cc in omega arith)

          go : (j : ℕ) → (j < i) ⊎ (i ≤ j) → j < i + 1 → holder_at w j ≡ x → floor m < key_at j → is_under w (piece_at w i) b ≡ true → key_at i ≤ key_at j
          go j (inl d) p q f u = under b j u (h.least j d q f)
          go j (inr d) p q f u = let e : i ≡ j = omega arith in subst (λ (k : ℕ). key_at i ≤ key_at k) e (omega arith)

    -- ---- what the best of all is

    abbrev all : List Constraint
    all = pieces_of w n x

    all_low : All (Low B) all
    all_low = piece_out w x (Low B) n 0 (λ j a b q. low j)

    above_keys : (k : Option ℕ) → map (key B) (pairs_above w n x k) ≡ filter (ltb (floor k)) (map (key B) (pairs all))
    unfolding pairs_above
    above_keys k = filter_floor k (pairs all) (pairs_low B all all_low)

    above_low : (k : Option ℕ) → All (Low B) (pairs_above w n x k)
    unfolding pairs_above
    above_low k = all_filter (is_above w k) (pairs all) (pairs_low B all all_low)

    pub best_next : (r : Option ℕ) → Best n x m n r → values_from w n x r ≡ map (value_fact x) (pairs_above w n x m)
    unfolding values_from
    best_next None h =
        let none = none_above (map (key B) (pairs all)) (floor m) (pairs_only B (λ y. floor m < y → ⊥) all (piece_out w x _ n 0 (λ j a b q f. h.least j (omega arith) q f))) in
        same_facts B x [] (pairs_above w n x m) nil (above_low m) (sym (above_keys m ∙ none))
    best_next (Some r) h =
        let s = h.some in
        let least = least_above (map (key B) (pairs all)) (floor m) (key_at r) (pairs_rising B all all_low)
        (all_at (pairs_have B all) (piece_in w x n 0 r (omega arith) (omega (arith, s.0)) s.1)) s.2
        (pairs_only B (λ y. floor m < y → key_at r ≤ y) all (piece_out w x _ n 0 (λ j a b q f. h.least j (omega arith) q f))) in
        same_facts B x (piece_at w r ∷ pairs_above w n x (Some r)) (pairs_above w n x m) (cons (low r) (above_low (Some r))) (above_low m)
        (ap (λ (k : List ℕ). key_at r ∷ k) (above_keys (Some r)) ∙ sym (above_keys m ∙ least))

  -- ---- for a walk from pair to pair

  module _ (n x : ℕ) where
    pub values_start : (r : Option ℕ) → values_from w n x r ≡ map (value_fact x) (pairs_above w n x None) → values_from w n x r ≡ value_facts w n x
    unfolding pairs_above value_facts
    values_start r e = e ∙ ap (map (value_fact x)) (go (pairs (pieces_of w n x)))
      where
        go : (l : List Constraint) → filter (is_above w None) l ≡ l
        go [] = refl
        go (s ∷ l) = ap (λ (k : List Constraint). s ∷ k) (go l)

    pub values_here : {m : Option ℕ} (k : ℕ) → m ≡ Some k → values_from w n x m ≡ value_fact x (piece_at w k) ∷ map (value_fact x) (pairs_above w n x (Some k))
    unfolding values_from
    values_here k p = ap (values_from w n x) p

    pub values_more : {m : Option ℕ} (k : ℕ) (r : Option ℕ) → m ≡ Some k → values_from w n x r ≡ map (value_fact x) (pairs_above w n x (Some k)) →
        values_from w n x m ≡ value_fact x (piece_at w k) ∷ values_from w n x r
    values_more k r p e = values_here k p ∙ ap (λ (F : List Fact). value_fact x (piece_at w k) ∷ F) (sym e)

    pub values_end_lem : {m : Option ℕ} → m ≡ None → values_from w n x m ≡ []
    unfolding values_from
    values_end_lem p = ap (values_from w n x) p
