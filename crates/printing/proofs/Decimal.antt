-- Numbers in base ten: the last digit stands after the others, and a word has at most ten. Assumes nothing.
use Prim.Native.Nat.{◌%◌, ◌+◌, ◌/◌, ◌<◌, ◌^◌, ◌≤◌, suc, zero, ℕ}
use borrow.Author.Tests.{le-ltb, lt-ltb, ltb-false, ltb-true}
use lib.Dec.{ltb}
use lib.ListN.{length, length-append}
use mathlib.Core.Bool.{Bool, false, true}
use mathlib.Core.List.{List, [], ◌++◌, ◌∷◌}
use mathlib.Core.Path.{◌∙◌, ◌≡◌, ap, refl, sym}
use native.Mathlib.Nat.{pow-suc}
use native.Mathlib.Omega.{arith}
use Rattle.frames.proofs.Puts.{put_as, put_then}
use Rattle.frames.specs.Rows.{Put}
use Rattle.meaning.specs.Program.{decimal, decimal_from}

-- more fuel than the number changes nothing
fuel : (f g n : ℕ) → n < f → n < g → decimal_from f n ≡ decimal_from g n
fuel zero g n h l = absurd (omega arith)
fuel (suc f) zero n h l = absurd (omega arith)
fuel (suc f) (suc g) n h l = go (ltb n 10) refl (fuel f g (n / 10))
  where
    go : (b : Bool) → ltb n 10 ≡ b → (n / 10 < f → n / 10 < g → decimal_from f (n / 10) ≡ decimal_from g (n / 10)) → decimal_from (suc f) n ≡ decimal_from (suc g) n
    go true e more = rw e
    go false e more = let big = ltb-false n 10 e in rw (e, more (omega arith) (omega arith))

pub decimal_one : (n : ℕ) → n < 10 → decimal n ≡ (48 + n) ∷ []
unfolding decimal
decimal_one n h = rw (lt-ltb n 10 h)

pub decimal_more : (n : ℕ) → 10 ≤ n → decimal n ≡ decimal (n / 10) ++ ((48 + n % 10) ∷ [])
unfolding decimal
decimal_more n h = rw (le-ltb n 10 h, fuel n (suc (n / 10)) (n / 10) (omega arith) (omega arith))

pub decimal_length : (n : ℕ) → 10 ≤ n → length (decimal n) ≡ length (decimal (n / 10)) + 1
decimal_length n h = ap length (decimal_more n h) ∙ length-append (decimal (n / 10)) ((48 + n % 10) ∷ [])

pub decimal_some : (n : ℕ) → 1 ≤ length (decimal n)
decimal_some n = go (ltb n 10) refl
  where
    go : (b : Bool) → ltb n 10 ≡ b → 1 ≤ length (decimal n)
    go true e = omega (arith, ap length (decimal_one n (ltb-true n 10 e)))
    go false e = omega (arith, decimal_length n (ltb-false n 10 e))

digits : (d n : ℕ) → n < 10 ^ suc d → length (decimal n) ≤ suc d
digits zero n h = omega (arith, ap length (decimal_one n (omega arith)))
digits (suc d) n h = go (ltb n 10) refl (digits d (n / 10) (omega (arith, pow-suc 10 (suc d))))
  where
    go : (b : Bool) → ltb n 10 ≡ b → length (decimal (n / 10)) ≤ suc d → length (decimal n) ≤ suc (suc d)
    go true e l = omega (arith, ap length (decimal_one n (ltb-true n 10 e)))
    go false e l = omega (arith, decimal_length n (ltb-false n 10 e))

pub decimal_short : (n : ℕ) → n < 4294967296 → length (decimal n) ≤ 10
decimal_short n h = digits 9 n (omega arith)

-- the digits put
pub put_last : {t u : List ℕ} {at r x n : ℕ} → n < 10 → x ≡ 48 + n → Put t at (x ∷ []) u r → Put t at (decimal n) u r
put_last {n = n} h e p = put_as (ap (λ (d : ℕ). d ∷ []) e ∙ sym (decimal_one n h)) p

pub put_digits : {t u v : List ℕ} {at m r x n : ℕ} → 10 ≤ n → Put t at (decimal (n / 10)) u m → x ≡ 48 + n % 10 → Put u m (x ∷ []) v r → Put t at (decimal n) v r
put_digits {n = n} h p e q = put_as (ap (λ (d : ℕ). decimal (n / 10) ++ (d ∷ [])) e ∙ sym (decimal_more n h)) (put_then p q)
