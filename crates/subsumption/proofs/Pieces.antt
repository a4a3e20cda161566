-- Laws of the constraints of an individual, one after another: whether one lies inside whole.
use Prim.Native.Nat.{◌<◌, ◌≤◌, ℕ}
use mathlib.Core.Bool.{Bool, false, true}
use mathlib.Core.List.{List}
use mathlib.Core.Logic.{⊎_elim}
use mathlib.Core.Path.{◌∙◌, ◌≡◌, sym}
use native.Mathlib.Omega.{arith}
use borrow.Author.Tests.{eq-eqb, ne_eqb}
use Rattle.layout.specs.Nesting.{Nested}
use Rattle.layout.specs.Tables.{constraint_at, holder_at}
use Rattle.layout.specs.declared.Tables.{Tables}
use Rattle.meaning.specs.Subsumption.{includes}
use Rattle.subsumption.specs.Tests.{FirstOf, has_piece, has_whole, is_piece_inside}
use Rattle.theory.proofs.Counting.{none_below, some_below}
use Rattle.theory.proofs.Rules.{order}

-- ---- one after another

-- halving: those before low are of earlier individuals, those from high on of x or of later ones
pub record Halving (w : List ℕ) (n x low high : ℕ) : Type 0 where
  pub within : (low ≤ high) × (high ≤ n)
  pub before : (m : ℕ) → m < low → holder_at w m < x
  pub after : (m : ℕ) → high ≤ m → m < n → x ≤ holder_at w m

-- none of those before m lies inside
pub record Passed (w : List ℕ) (t : Tables) (x f lo hi m : ℕ) : Type 0 where
  pub within : m ≤ t.constraints
  pub none : (i : ℕ) → i < m → is_piece_inside (constraint_at w) w x f lo hi i ≡ false
  pub after : (i : ℕ) → m ≤ i → i < t.constraints → x ≤ holder_at w i

pub passed_starts : {w : List ℕ} {t : Tables} {x f lo hi m : ℕ} → FirstOf w t.constraints x m → Passed w t x f lo hi m
passed_starts {w = w} {x = x} f = record {
  within = f.within;
  none = λ i h. rw (ne_eqb (holder_at w i) x (λ e. omega (arith, f.before i h)));
  after = f.after;
}

module _ {w : List ℕ} {t : Tables} {x f lo hi m : ℕ} (nest : Nested w t) (p : Passed w t x f lo hi m) where
  nothing : {r : Bool} → r ≡ false → ((i : ℕ) → i < t.constraints → is_piece_inside (constraint_at w) w x f lo hi i ≡ false) → r ≡ has_whole w t.constraints x f lo hi
  unfolding has_piece
  nothing z e = z ∙ sym (none_below (is_piece_inside (constraint_at w) w x f lo hi) t.constraints e)

  pub pieces_end : {r : Bool} → r ≡ false → t.constraints ≤ m → r ≡ has_whole w t.constraints x f lo hi
  pieces_end z h = nothing z (λ i l. p.none i (omega arith))

  module _ {y : ℕ} (less : m < t.constraints) (ey : y ≡ holder_at w m) where
    -- the constraints of a later individual have begun
    pub pieces_behind : {r : Bool} → r ≡ false → (y ≡ x → ⊥) → r ≡ has_whole w t.constraints x f lo hi
    pieces_behind z n = nothing z (λ i l. ⊎_elim (p.none i) (λ g. later i g l) (order i m))
      where
        later : (i : ℕ) → m ≤ i → i < t.constraints → is_piece_inside (constraint_at w) w x f lo hi i ≡ false
        later i g l = rw (ne_eqb (holder_at w i) x (λ e.
            n (ey ∙ (let a = p.after m (omega arith) less in let b = nest.rising m i g l in omega arith))))

    module _ (own : y ≡ x) {one : Bool} (e : one ≡ includes f lo hi (constraint_at w m)) where
      held : is_piece_inside (constraint_at w) w x f lo hi m ≡ one
      held = rw (eq-eqb (holder_at w m) x (sym ey ∙ own)) (sym e)

      pub pieces_found : {r : Bool} → r ≡ true → one ≡ true → r ≡ has_whole w t.constraints x f lo hi
      unfolding has_piece
      pieces_found y h = y ∙ sym (some_below (is_piece_inside (constraint_at w) w x f lo hi) t.constraints m less (held ∙ h))
