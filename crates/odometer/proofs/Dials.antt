-- A dial is a constraint with lo < hi: it has two pieces or more, every other one piece. There are at most 16.
use Prim.Native.Nat.{◌*◌, ◌+◌, ◌<◌, ◌^◌, ◌≤◌, suc, ℕ}
use mathlib.Core.Bool.{Bool, ◌&&◌, cond, false, true}
use mathlib.Core.List.{List, [], ◌∷◌}
use mathlib.Core.Logic.{◌⊎◌, inl, inr}
use mathlib.Core.Path.{◌∙◌, ◌≡◌, refl}
use native.Mathlib.Nat.{mul-le-mul_right, one-mul, pow-suc}
use native.Mathlib.Omega.{arith}
use borrow.Author.Tests.{ltb-true}
use lib.Dec.{leb, leb→le, ltb}
use lib.ListN.{length}
use lib.Pow.{pow_mono}
use Rattle.meaning.specs.Limits.{most_combinations}
use Rattle.meaning.specs.Splitting.{wide_neighbours}
use Rattle.meaning.specs.Intervals.{Constraint, Within}
use Rattle.meaning.specs.Lists.{All, ◌∈◌, cons, filter, flat_map, nil}
use Rattle.meaning.specs.Policy.{Policy}
use Rattle.meaning.specs.Splitting.{Sorted, ends, insert, pieces, points, product}
use Rattle.theory.proofs.Count.{count_pieces, pieces_some}
use Rattle.theory.proofs.Points.{insert_all_lem, insert_here, inserts_all, inserts_there, lo_point, points_sorted}
use Rattle.theory.proofs.Rules.{T_and, all_filter, all_mono, any_cases, any_none, head, order, tail}

two_members : (l : List ℕ) (a b : ℕ) → a ∈ l → b ∈ l → a < b → 2 ≤ length l
two_members [] a b p q h = absurd (any_none p)
two_members (x ∷ []) a b p q h = go (any_cases p) (any_cases q)
  where
    go : (a ≡ x) ⊎ (a ∈ []) → (b ≡ x) ⊎ (b ∈ []) → 2 ≤ length (x ∷ [])
    go (inl c) (inl d) = absurd (omega arith)
    go (inl c) (inr d) = absurd (any_none d)
    go (inr c) d = absurd (any_none c)
two_members (x ∷ (y ∷ l)) a b p q h = omega arith

module _ (Q : Policy) (s : Constraint) where
  abbrev relevant : List ℕ
  relevant = filter (λ e. leb s.lo e && leb e s.hi) (flat_map (ends s.feature) Q)

  pub two_pieces : s.lo < s.hi → 2 ≤ length (pieces Q s)
  two_pieces h =
      let m = two_members (points Q s) s.lo s.hi (lo_point Q s) (inserts_there relevant (insert s.hi (s.lo ∷ [])) (insert_here s.hi (s.lo ∷ []))) h in
      omega (arith, m, count_pieces Q s)

  inside : s.lo ≤ s.hi → All (Within s.lo s.hi) (points Q s)
  inside a =
      inserts_all relevant (insert s.hi (s.lo ∷ [])) (all_mono (λ e t. let u = T_and (leb s.lo e) (leb e s.hi) t in (leb→le _ _ u.0, leb→le _ _ u.1))
      (all_filter (λ e. leb s.lo e && leb e s.hi) (flat_map (ends s.feature) Q)))
      (insert_all_lem s.hi (s.lo ∷ []) (a, omega arith) (cons (omega arith, a) nil))

  pub one_piece : s.lo ≡ s.hi → length (pieces Q s) ≡ 1
  one_piece q = count_pieces Q s ∙ go (points Q s) (lo_point Q s) (points_sorted Q s) (inside (omega arith))
    where
      go : (X : List ℕ) → s.lo ∈ X → Sorted X → All (Within s.lo s.hi) X → length X + wide_neighbours X ≡ 1
      go [] m r h = absurd (any_none m)
      go (x ∷ []) m r h = refl
      go (x ∷ (y ∷ l)) m r h = let a = head h in let b = head (tail h) in let c = r.0 in absurd (omega arith)

-- ---- how many

abbrev pub dial_count : List Constraint → ℕ
dial_count [] = 0
dial_count (s ∷ l) = let rest = dial_count l in cond (ltb s.lo s.hi) (suc rest) rest

module _ (Q : Policy) where
  dials_product : (l : List Constraint) → 2 ^ dial_count l ≤ product Q l
  dials_product [] = omega arith
  dials_product (s ∷ l) = go (ltb s.lo s.hi) refl (dials_product l)
    where
      go : (b : Bool) → ltb s.lo s.hi ≡ b → 2 ^ dial_count l ≤ product Q l → 2 ^ cond b (suc (dial_count l)) (dial_count l) ≤ length (pieces Q s) * product Q l
      go true q h =
          let m : 2 * product Q l ≤ length (pieces Q s) * product Q l = mul-le-mul_right (product Q l) (two_pieces Q s (ltb-true _ _ q)) in
          rw pow-suc (omega arith)
      go false q h =
          let m : 1 * product Q l ≤ length (pieces Q s) * product Q l = mul-le-mul_right (product Q l) (pieces_some Q s) in
          omega (arith, one-mul (product Q l))

  pub dials_few : (l : List Constraint) → product Q l ≤ most_combinations → dial_count l ≤ 16
  dials_few l h = go (order 16 (dial_count l))
    where
      go : (16 < dial_count l) ⊎ (dial_count l ≤ 16) → dial_count l ≤ 16
      go (inl b) = let m : 2 ^ 17 ≤ 2 ^ dial_count l = pow_mono b in absurd (omega (arith, m, dials_product l))
      go (inr b) = b
