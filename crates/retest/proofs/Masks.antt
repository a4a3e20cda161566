-- What agrees at both of two sets of dials agrees at each.
use Prim.Native.Nat.{ℕ}
use mathlib.Core.Bool.{Bool, ◌||◌, false, true}
use mathlib.Core.List.{List}
use mathlib.Core.Path.{◌∙◌, ◌≡◌, refl}
use lib.Bits.{bit_or}
use Rattle.meaning.specs.Intervals.{Constraint}
use Rattle.retest.specs.Reasons.{Agrees}
use Rattle.words.proofs.Bits.{bit_or_lem}
use Rattle.words.specs.Sets.{test_bit}

module _ {dials w : List ℕ} (a b : ℕ) {v : ℕ → Constraint} (h : Agrees dials w (bit_or a b) v) where
  pub agrees_left : Agrees dials w a v
  agrees_left = record { same = λ d l e. h.same d l (bit_or_lem a b d ∙ rw e) }

  pub agrees_right : Agrees dials w b v
  agrees_right = record { same = λ d l e. h.same d l (bit_or_lem a b d ∙ go (test_bit a d) (test_bit b d) e) }
    where
      go : (x y : Bool) → y ≡ true → (x || y) ≡ true
      go true y e = refl
      go false y e = e
