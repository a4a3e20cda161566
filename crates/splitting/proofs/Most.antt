-- A constraint has at most two pieces for each end, and three more; so n constraints have few combinations where there are few ends.
use Prim.Native.Nat.{◌*◌, ◌+◌, ◌/◌, ◌<◌, ◌≤◌, suc, ℕ}
use mathlib.Core.Bool.{Bool}
use mathlib.Core.List.{List, [], ◌∷◌}
use mathlib.Core.Logic.{◌⊎◌, inl, inr}
use mathlib.Core.Path.{◌≡◌, refl}
use native.Mathlib.Nat.{div-mul-le_self, mul_comm, mul-le-mul, mul-le-mul_right}
use native.Mathlib.Omega.{arith}
use lib.ListN.{length}
use Rattle.keys.proofs.Ranking.{rising_tail}
use Rattle.keys.specs.Keys.{key_of}
use Rattle.meaning.specs.Intervals.{Constraint, is_within}
use Rattle.meaning.specs.Limits.{most_combinations}
use Rattle.meaning.specs.Lists.{◌∈◌, cons, filter, here, nil, there}
use Rattle.meaning.specs.Policy.{Policy}
use Rattle.meaning.specs.Splitting.{Sorted, insert, pieces, points, product}
use Rattle.splitting.proofs.Pieces.{filtered}
use Rattle.splitting.specs.Ends.{Ends, ends_on}
use Rattle.theory.proofs.Count.{count_pieces}
use Rattle.theory.proofs.Most.{insert_most, neighbours_most}
use Rattle.theory.proofs.Points.{above, insert_all_lem, insert_here, insert_sorted, insert_there, inserts_all, points_sorted}
use Rattle.theory.proofs.Rules.{all_at, all_mono, all_of, any_cases, any_none}

-- ---- X has lo, hi and at most every end

-- ends that rise, each with a key of its own
keys_most : (f : ℕ) (X Y : List ℕ) → Sorted X → Sorted Y → ((z : ℕ) → z ∈ X → key_of f z ∈ Y) → length X ≤ length Y
keys_most f [] Y r s a = omega arith
keys_most f (x ∷ X) [] r s a = absurd (any_none (a x (here refl)))
keys_most f (x ∷ X) (y ∷ Y) r s a =
    go (λ b. keys_most f X Y (rising_tail x X r) (rising_tail y Y s) b) (λ b. keys_most f (x ∷ X) Y r (rising_tail y Y s) b) (any_cases (a x (here refl)))
  where
    past : (z : ℕ) → y < key_of f z → (key_of f z ≡ y) ⊎ (key_of f z ∈ Y) → key_of f z ∈ Y
    past z h (inl e) = absurd (omega arith)
    past z h (inr m) = m

    from : {z : ℕ} → (z ≡ x) ⊎ (z ∈ X) → x ≤ z
    from (inl e) = omega arith
    from (inr m) = let h = above x X r m in omega arith

    go : (((z : ℕ) → z ∈ X → key_of f z ∈ Y) → length X ≤ length Y) → (((z : ℕ) → z ∈ x ∷ X → key_of f z ∈ Y) → suc (length X) ≤ length Y) →
        (key_of f x ≡ y) ⊎ (key_of f x ∈ Y) → suc (length X) ≤ suc (length Y)
    go g k (inl e) = let h = g (λ z m. past z (omega (arith, above x X r m)) (any_cases (a z (there m)))) in omega arith
    go g k (inr i) = let h = k (λ z m. past z (omega (arith, above y Y s i, from (any_cases m))) (any_cases (a z m))) in omega arith

module _ (Q : Policy) (e : List ℕ) (s : Constraint) (n : Ends Q e) where
  -- the keys of lo, hi and every end
  Y : List ℕ
  Y = insert (key_of s.feature s.lo) (insert (key_of s.feature s.hi) e)

  points_most : length (points Q s) ≤ length e + 2
  unfolding Y
  points_most =
      let lo = key_of s.feature s.lo in
      let hi = key_of s.feature s.hi in
      let p : ℕ → Bool = is_within s.lo s.hi in
      let E = ends_on Q s.feature in
      let most : length (points Q s) ≤ length Y =
      keys_most s.feature (points Q s) Y (points_sorted Q s) (insert_sorted lo (insert hi e) (insert_sorted hi e n.rising))
      (λ z m. all_at (inserts_all (filter p E) (insert s.hi (s.lo ∷ []))
      (all_mono (λ z h. h.1) (filtered p E (all_of E (λ z i. insert_there lo (insert hi e) (insert_there hi e (n.all s.feature z i))))))
      (insert_all_lem s.hi (s.lo ∷ []) (insert_there lo (insert hi e) (insert_here hi e)) (cons (insert_here lo (insert hi e)) nil))) m) in
      omega (arith, insert_most lo (insert hi e), insert_most hi e)

pieces_within : (Q : Policy) (e : List ℕ) (s : Constraint) → Ends Q e → length (pieces Q s) ≤ 2 * length e + 3
pieces_within Q e s n = omega (arith, count_pieces Q s, neighbours_most (points Q s), points_most Q e s n)

-- ---- the loop's turns

pub room_fits : (a d : ℕ) → a ≤ most_combinations / d → a * d ≤ most_combinations
room_fits a d h = omega (arith, mul-le-mul_right d h, div-mul-le_self most_combinations d)

-- i constraints, or fewer, have at most a combinations, whatever they are
abbrev pub Within : List ℕ → ℕ → ℕ → Type 0
Within e i a = (Q : Policy) → Ends Q e → (l : List Constraint) → length l ≤ i → product Q l ≤ a

pub within_more : (e : List ℕ) (i a most : ℕ) → 2 * length e + 3 ≤ most → Within e i a → Within e (i + 1) (a * most)
within_more e i a most b h Q n [] k =
    let c : 1 ≤ most = omega arith in
    mul-le-mul (h Q n [] (omega arith)) c
within_more e i a most b h Q n (s ∷ l) k =
    let c : length (pieces Q s) ≤ most = omega (arith, pieces_within Q e s n) in
    rw (mul_comm a most) (mul-le-mul c (h Q n l (omega arith)))
