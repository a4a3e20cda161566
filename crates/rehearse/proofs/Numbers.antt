-- An argument's digits, one after another. Assumes nothing.
use Prim.Native.Nat.{◌*◌, ◌+◌, ◌-◌, ◌<◌, ◌≤◌, ℕ}
use mathlib.Core.Bool.{Bool, cond, false, true}
use mathlib.Core.List.{List, [], ◌∷◌}
use mathlib.Core.Path.{◌∙◌, ◌≡◌, refl, sym}
use native.Mathlib.Numerals.{add-one}
use native.Mathlib.Omega.{arith}
use lib.ListN.{drop, drop_of_length-le, get_or, length}
use lib.Seq.{drop-cons}
use borrow.Author.Tests.{le-leb, lt-leb}
use Rattle.rehearse.specs.Arguments.{is_digit, most_word, number_from, number_of}
use Rattle.theory.proofs.Links.{bounds}

pub digit_bounds : (b : ℕ) {d : Bool} → d ≡ is_digit b → d ≡ true → (48 ≤ b) × (b ≤ 57)
digit_bounds b {d} e h = let f : is_digit b ≡ true = sym e ∙ h in simp bounds at f

-- a number that no word holds stays one, whatever follows
too_great : (v : ℕ) (t : List ℕ) → most_word < v → number_from v t ≡ 0
too_great v [] h = rw (lt-leb v most_word h)
too_great v (b ∷ t) h = go (is_digit b) (too_great (10 * v + (b - 48)) t (omega arith))
  where
    go : (d : Bool) → number_from (10 * v + (b - 48)) t ≡ 0 → cond d (number_from (10 * v + (b - 48)) t) 0 ≡ 0
    go true e = e
    go false e = refl

-- ---- the loop: v is the number that the digits before i are

pub record DigitsLeft (t : List ℕ) (v i : ℕ) : Type 0 where
  pub small : v ≤ most_word
  pub same : number_of t ≡ number_from v (drop i t)

pub digits_start : (t : List ℕ) → DigitsLeft t 0 0
unfolding number_of
digits_start t = record { small = omega arith; same = refl }

module _ {t : List ℕ} {v i : ℕ} (g : DigitsLeft t v i) where
  pub digits_all : length t ≤ i → v ≡ number_of t
  digits_all h = sym (g.same ∙ rw (drop_of_length-le t h, le-leb v most_word g.small))

  -- the next byte
  module _ (l : i < length t) {d : Bool} (e : d ≡ is_digit (get_or t i 0)) where
    next : number_of t ≡ cond d (number_from (10 * v + (get_or t i 0 - 48)) (drop (i + 1) t)) 0
    next = g.same ∙ rw (drop-cons t i 0 l, e, add-one i)

    pub no_digit : d ≡ false → 0 ≡ number_of t
    no_digit h = sym (next ∙ rw h)

    module _ (h : d ≡ true) {x : ℕ} (f : x ≡ get_or t i 0 - 48) where
      pub no_word : most_word < 10 * v + x → 0 ≡ number_of t
      no_word k = sym (next ∙ rw h (too_great _ (drop (i + 1) t) (rw f at k)))

      pub digits_more : 10 * v + x ≤ most_word → DigitsLeft t (10 * v + x) (i + 1)
      digits_more k = record { small = k; same = next ∙ rw (h, f) }
