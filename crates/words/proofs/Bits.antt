-- The bits of one word: after or, after a shift, how many are set, which is the lowest. Assumes nothing.
use Prim.Native.Nat.{◌%◌, ◌+◌, ◌/◌, ◌<◌, ◌^◌, ◌≤◌, suc, zero, ℕ}
use lib.Bits.{and_mask, bit_and, bit_or, or_mod, or_shr}
use lib.Count.{ones, ones_step, ones_in, count_trailing_zeros, under}
use lib.Dec.{eqb, eqb-suc-suc, eqb-suc-zero, eqb-zero-suc}
use lib.Pow.{pow_mono, shr-shr}
use mathlib.Core.Bool.{◌||◌, false, true}
use mathlib.Core.Path.{◌∙◌, ◌≡◌, ap, refl, subst, sym}
use native.Mathlib.Nat.{div-div-eq-div-mul, div-eq_of_lt, div-lt_iff_lt-mul, div-one, lt_of_lt_of_le, mod-lt, mul-div_cancel}
use native.Mathlib.Nat.{mul-mod_left, pow-suc, pow-succ', zero-lt-suc}
use native.Mathlib.Omega.{arith}
use Rattle.words.specs.Sets.{test_bit}

-- ---- the lowest bit and the others

pub bit_zero : (w : ℕ) → test_bit w 0 ≡ eqb (w % 2) 1
bit_zero w = ap (λ (x : ℕ). eqb (x % 2) 1) (div-one w)

pub bit_suc : (w k : ℕ) → test_bit w (suc k) ≡ test_bit (w / 2) k
bit_suc w k = ap (λ (x : ℕ). eqb (x % 2) 1) (ap (λ (x : ℕ). w / x) (pow-succ' 2 k) ∙ sym (div-div-eq-div-mul w 2 (2 ^ k)))

pub bit_none : (k : ℕ) → test_bit 0 k ≡ false
bit_none zero = refl
bit_none (suc k) = bit_suc 0 k ∙ bit_none k

pub bit_shift : (w k j : ℕ) → test_bit (w / 2 ^ k) j ≡ test_bit w (k + j)
bit_shift w k j = ap (λ (x : ℕ). eqb (x % 2) 1) (shr-shr w k j)

-- `x & 1 == 1`, of a word shifted by k
pub bit_mask : (w k : ℕ) → eqb (bit_and (w / 2 ^ k) 1) 1 ≡ test_bit w k
bit_mask w k = ap (λ (x : ℕ). eqb x 1) (and_mask (w / 2 ^ k) 1)

-- a word has no bit past its width
pub bit_past : (w d k : ℕ) → w < 2 ^ d → d ≤ k → test_bit w k ≡ false
bit_past w d k h l = ap (λ (x : ℕ). eqb (x % 2) 1) (div-eq_of_lt (lt_of_lt_of_le h (pow_mono l)))

-- ---- after or

either : (x y : ℕ) → x < 2 → y < 2 → eqb (bit_or x y) 1 ≡ eqb x 1 || eqb y 1
either zero zero p q = refl
either zero (suc zero) p q = refl
either (suc zero) zero p q = refl
either (suc zero) (suc zero) p q = refl
either zero (suc (suc y)) p q = absurd (omega arith)
either (suc zero) (suc (suc y)) p q = absurd (omega arith)
either (suc (suc x)) y p q = absurd (omega arith)

pub bit_or_lem : (a b k : ℕ) → test_bit (bit_or a b) k ≡ test_bit a k || test_bit b k
bit_or_lem a b k =
    ap (λ (x : ℕ). eqb x 1) (ap (λ (x : ℕ). x % 2) (or_shr a b k) ∙ or_mod (a / 2 ^ k) (b / 2 ^ k) 1)
    ∙ either (a / 2 ^ k % 2) (b / 2 ^ k % 2) (mod-lt (a / 2 ^ k) (zero-lt-suc 1)) (mod-lt (b / 2 ^ k) (zero-lt-suc 1))

pub bit_pow : (k j : ℕ) → test_bit (2 ^ k) j ≡ eqb j k
bit_pow zero zero = refl
bit_pow zero (suc j) = bit_suc 1 j ∙ bit_none j ∙ sym (eqb-suc-zero j)
bit_pow (suc k) zero =
    bit_zero (2 ^ suc k) ∙ ap (λ (x : ℕ). eqb x 1) (ap (λ (x : ℕ). x % 2) (pow-suc 2 k) ∙ mul-mod_left (2 ^ k) 2) ∙ sym (eqb-zero-suc k)
bit_pow (suc k) (suc j) =
    bit_suc (2 ^ suc k) j ∙ ap (λ (x : ℕ). test_bit x j) (ap (λ (x : ℕ). x / 2) (pow-suc 2 k) ∙ mul-div_cancel (2 ^ k) (zero-lt-suc 1))
    ∙ bit_pow k j ∙ sym (eqb-suc-suc j k)

-- ---- how many bits are set

half_lt : (w d : ℕ) → w < 2 ^ suc d → w / 2 < 2 ^ d
half_lt w d h = (div-lt_iff_lt-mul (zero-lt-suc 1)).1 (subst (λ (x : ℕ). w < x) (pow-suc 2 d) h)

-- the count of a word's bits looks at no bit past its width
pub ones_within : (d w : ℕ) → w < 2 ^ d → ones w ≡ ones_in d w
unfolding ones ones_in
ones_within zero zero h = refl
ones_within zero (suc w) h = absurd (omega arith)
ones_within (suc d) w h = ones_step w ∙ ap (λ (x : ℕ). w % 2 + x) (ones_within d (w / 2) (half_lt w d h))

-- ---- the lowest bit that is set

pub lowest_set : (d w : ℕ) → 0 < w → w < 2 ^ d → test_bit w (count_trailing_zeros d w) ≡ true
unfolding count_trailing_zeros
lowest_set zero w p h = absurd (omega arith)
lowest_set (suc d) w p h = go (w % 2) refl (λ e. lowest_set d (w / 2) (omega arith) (half_lt w d h))
  where
    go : (r : ℕ) → w % 2 ≡ r → (w % 2 ≡ 0 → test_bit (w / 2) (count_trailing_zeros d (w / 2)) ≡ true)
        → test_bit w (under r (count_trailing_zeros d (w / 2))) ≡ true
    go zero e ih = bit_suc w (count_trailing_zeros d (w / 2)) ∙ ih e
    go (suc r) e ih = let one : w % 2 ≡ 1 = omega arith in bit_zero w ∙ rw one

pub below_lowest : (d w j : ℕ) → j < count_trailing_zeros d w → test_bit w j ≡ false
unfolding count_trailing_zeros
below_lowest zero w j h = absurd (omega arith)
below_lowest (suc d) w j h = go (w % 2) j refl h (λ i. below_lowest d (w / 2) i)
  where
    go : (r j : ℕ) → w % 2 ≡ r → j < under r (count_trailing_zeros d (w / 2))
        → ((i : ℕ) → i < count_trailing_zeros d (w / 2) → test_bit (w / 2) i ≡ false) → test_bit w j ≡ false
    go zero zero e h ih = bit_zero w ∙ rw e
    go zero (suc i) e h ih = bit_suc w i ∙ ih i (omega arith)
    go (suc r) j e h ih = absurd (omega arith)
