-- The number of combinations, one constraint after another.
use Prim.Native.Nat.{◌*◌, ◌+◌, ◌-◌, ◌<◌, ◌≤◌, min, suc, zero, ℕ}
use mathlib.Core.List.{List, [], ◌∷◌}
use mathlib.Core.Path.{◌∙◌, ◌≡◌, ap, ap₂, refl, subst, sym}
use native.Mathlib.Nat.{mul-le-mul_left, mul-one, suc-add, zero-add}
use native.Mathlib.Numerals.{add-one}
use native.Mathlib.Omega.{arith}
use lib.ListN.{length}
use Rattle.layout.specs.Tables.{constraint_at, interval_of}
use Rattle.meaning.specs.Intervals.{Constraint}
use Rattle.meaning.specs.Limits.{most_combinations}
use Rattle.meaning.specs.Policy.{Policy}
use Rattle.meaning.specs.Splitting.{pieces, product}
use Rattle.splitting.specs.Constraints.{first_constraints, piece_count}
use Rattle.theory.proofs.Count.{pieces_some, product_append}
use Rattle.theory.proofs.Counting.{counted_more}

-- how many combinations the first i constraints have
abbrev pub ways : Policy → List ℕ → ℕ → ℕ
ways Q w zero = 1
ways Q w (suc i) = ways Q w i * piece_count Q w i

pub ways_product : (Q : Policy) (w : List ℕ) (i : ℕ) → ways Q w i ≡ product Q (first_constraints w i)
ways_product Q w zero = refl
ways_product Q w (suc i) =
    ap₂ (λ (x y : ℕ). x * y) (ways_product Q w i) (sym (mul-one _))
    ∙ (sym (product_append Q (first_constraints w i) (constraint_at w i ∷ [])) ∙ ap (product Q) (sym (counted_more (constraint_at w) i) ∙ ap (first_constraints w) (add-one i)))

-- ---- the loop's turns

-- constraint i as it is read
read_at : (w : List ℕ) (i : ℕ) {f lo hi : ℕ} → f ≡ (constraint_at w i).feature → lo ≡ (constraint_at w i).lo → hi ≡ (constraint_at w i).hi →
    interval_of f lo hi ≡ constraint_at w i
read_at w i p q r = rw (p, q, r)

module _ (Q : Policy) (w : List ℕ) where
  pub ways_more : (i a c : ℕ) {f lo hi : ℕ} → a ≡ ways Q w i → f ≡ (constraint_at w i).feature → lo ≡ (constraint_at w i).lo → hi ≡ (constraint_at w i).hi →
      c ≡ length (pieces Q (interval_of f lo hi)) → a * c ≡ ways Q w (i + 1)
  ways_more i a c p ef el eh q =
      ap₂ (λ (x y : ℕ). x * y) p (q ∙ ap (λ (s : Constraint). length (pieces Q s)) (read_at w i ef el eh)) ∙ ap (ways Q w) (sym (add-one i))

  ways_le : (i m : ℕ) → ways Q w i ≤ ways Q w (m + i)
  ways_le i zero = rw (zero-add i) (omega arith)
  ways_le i (suc m) = rw (suc-add m i) (grow (ways_le i m) (pieces_some Q (constraint_at w (m + i))))
    where
      grow : {x y c : ℕ} → x ≤ y → 1 ≤ c → x ≤ y * c
      grow {x} {y} {c} p q = omega (arith, mul-le-mul_left y q, mul-one y)

  pub ways_past : (n i a : ℕ) → i < n → a ≡ ways Q w (i + 1) → most_combinations < a →
      suc most_combinations ≡ min (product Q (first_constraints w n)) (suc most_combinations)
  ways_past n i a h p g =
      let e : n - (i + 1) + (i + 1) ≡ n = omega arith in
      let b : ways Q w (i + 1) ≤ ways Q w n = subst (λ (x : ℕ). ways Q w (i + 1) ≤ ways Q w x) e (ways_le (i + 1) (n - (i + 1))) in
      omega (arith, ways_product Q w n, p)

  pub ways_end : (n i a : ℕ) → i ≤ n → n ≤ i → a ≡ ways Q w i → a ≤ most_combinations →
      a ≡ min (product Q (first_constraints w n)) (suc most_combinations)
  ways_end n i a h k p g =
      let e : i ≡ n = omega arith in
      let b : a ≡ product Q (first_constraints w n) = p ∙ (ap (ways Q w) e ∙ ways_product Q w n) in
      omega arith
