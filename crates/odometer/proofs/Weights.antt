-- How many combinations the constraints from one on have: constraints with one piece do not count.
use Prim.Native.Nat.{◌*◌, ◌+◌, ◌<◌, ◌≤◌, suc, zero, ℕ}
use mathlib.Core.List.{List, map}
use mathlib.Core.Path.{◌∙◌, ◌≡◌, ap, refl, sym}
use native.Mathlib.Nat.{add-suc, add-zero, mul_assoc, mul_comm, mul-le-mul_right, mul-pos, one-mul}
use native.Mathlib.Omega.{arith}
use Rattle.layout.specs.Tables.{constraint_at}
use Rattle.meaning.specs.Lists.{counting}
use Rattle.meaning.specs.Policy.{Policy}
use Rattle.meaning.specs.Splitting.{product}
use Rattle.odometer.specs.Digits.{span}
use Rattle.splitting.specs.Constraints.{first_constraints, piece_count}
use Rattle.theory.proofs.Count.{pieces_some}

module _ (s : ℕ → ℕ) where
  pub span_front : (m k : ℕ) → span s m (suc k) ≡ s m * span s (suc m) k
  span_front m zero = rw add-zero (omega (arith, mul_comm 1 (s m)))
  span_front m (suc k) =
      let e : m + suc k ≡ suc m + k = omega arith in
      rw (span_front m k, e) (mul_assoc (s m) (span s (suc m) k) (s (suc m + k)))

  pub span_split : (m a b : ℕ) → span s m (a + b) ≡ span s m a * span s (m + a) b
  span_split m a zero = rw add-zero (omega (arith, mul_comm (span s m a) 1))
  span_split m a (suc b) =
      let e : m + (a + b) ≡ m + a + b = omega arith in
      rw (add-suc, span_split m a b, e) (mul_assoc (span s m a) (span s (m + a) b) (s (m + a + b)))

  -- those with one piece
  pub span_one : (m a : ℕ) → ((j : ℕ) → m ≤ j → j < m + a → s j ≡ 1) → span s m a ≡ 1
  span_one m zero h = refl
  span_one m (suc a) h = rw (span_one m a (λ j b c. h j b (omega arith)), h (m + a) (omega arith) (omega arith))

  pub span_skip : (m a b : ℕ) → ((j : ℕ) → m ≤ j → j < m + a → s j ≡ 1) → span s m (a + b) ≡ span s (m + a) b
  span_skip m a b h = span_split m a b ∙ ap (λ (x : ℕ). x * span s (m + a) b) (span_one m a h) ∙ one-mul (span s (m + a) b)

  module _ (some : (i : ℕ) → 0 < s i) where
    pub span_some : (m k : ℕ) → 0 < span s m k
    span_some m zero = omega arith
    span_some m (suc k) = mul-pos (span_some m k) (some (m + k))

    pub span_most : (m k : ℕ) → span s m k ≤ span s 0 (m + k)
    span_most m k =
        let z : 0 + m ≡ m = omega arith in
        let a = span_split 0 m k in
        let b : 1 * span s m k ≤ span s 0 m * span s m k = mul-le-mul_right (span s m k) (span_some 0 m) in
        omega (arith, a, b, one-mul (span s m k), ap (λ (x : ℕ). span s 0 m * span s x k) z)

module _ (Q : Policy) (w : List ℕ) where
  pub pieces_any : (i : ℕ) → 0 < piece_count Q w i
  pieces_any i = pieces_some Q (constraint_at w i)

  pub product_span : (n : ℕ) → product Q (first_constraints w n) ≡ span (piece_count Q w) 0 n
  product_span n = go 0 n
    where
      go : (o n : ℕ) → product Q (map (constraint_at w) (counting o n)) ≡ span (piece_count Q w) o n
      go o zero = refl
      go o (suc n) = ap (λ (x : ℕ). piece_count Q w o * x) (go (suc o) n) ∙ sym (span_front (piece_count Q w) o n)
