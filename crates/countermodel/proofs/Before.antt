-- The tests of the code by which a pair is chosen.
use Prim.Native.Nat.{ℕ}
use mathlib.Core.Bool.{Bool, ◌||◌, false, true}
use mathlib.Core.List.{List}
use mathlib.Core.Path.{◌∙◌, ◌≡◌, refl, sym}
use native.Mathlib.Omega.{arith}
use lib.Dec.{ltb}
use borrow.Author.Tests.{eq-eqb, le-ltb, ne_eqb}
use Rattle.layout.specs.Tables.{constraint_at, piece_at}
use Rattle.meaning.specs.Countermodel.{pair_before}
use Rattle.meaning.specs.Intervals.{value_of}

module _ (w : List ℕ) (a b : ℕ) {f g : ℕ} (e : f ≡ (constraint_at w a).feature) (d : g ≡ (constraint_at w b).feature) where
  pub before_same : f ≡ g → {x y : ℕ} → x ≡ (piece_at w a).hi → y ≡ (piece_at w b).hi → ltb x y ≡ pair_before (piece_at w a) (piece_at w b)
  unfolding constraint_at piece_at value_of
  before_same h p q =
      let s = (constraint_at w a).feature in
      let t = (constraint_at w b).feature in
      rw (p, q, le-ltb s t (omega arith), eq-eqb s t (sym e ∙ h ∙ d))

  pub before_other : (f ≡ g → ⊥) → ltb f g ≡ pair_before (piece_at w a) (piece_at w b)
  unfolding constraint_at piece_at value_of
  before_other h =
      let s = (constraint_at w a).feature in
      let t = (constraint_at w b).feature in
      rw (e, d, ne_eqb s t (λ p. h (e ∙ p ∙ sym d))) (go (ltb s t))
    where
      go : (b : Bool) → b ≡ (b || false)
      go true = refl
      go false = refl
