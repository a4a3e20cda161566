-- One dial: it takes its next piece, or starts again.
use Prim.Native.Nat.{◌+◌, ◌<◌, ◌≤◌, ℕ}
use mathlib.Core.Bool.{Bool, false, true}
use mathlib.Core.List.{List}
use mathlib.Core.Path.{◌∙◌, ◌≡◌, ap₂, subst, sym}
use native.Mathlib.Numerals.{add-one}
use native.Mathlib.Omega.{arith}
use lib.Dec.{T}
use Rattle.layout.specs.Tables.{PiecePut, constraint_at, interval_of, piece_at}
use Rattle.meaning.specs.Intervals.{NonEmpty}
use Rattle.odometer.specs.Odometer.{Split, Turned}
use Rattle.splitting.proofs.Pieces.{piece_first, piece_last, piece_next}
use Rattle.splitting.specs.Ends.{NextUpper}

module _ {e w : List ℕ} {n m : ℕ} (s : Split e w n) (less : m < n) {lo hi p : ℕ} (el : lo ≡ (constraint_at w m).lo) (eh : hi ≡ (constraint_at w m).hi)
    (ep : p ≡ (piece_at w m).hi) where
  full : NonEmpty (constraint_at w m).lo (constraint_at w m).hi
  full = s.splittable.full m less

  pub turn_on : {relied : Bool} {f up : ℕ} {w' : List ℕ} → relied ≡ true → p < hi → f ≡ (constraint_at w m).feature → NextUpper e f hi p up →
      PiecePut m (p + 1) up w w' → Turned e m relied w w' true
  turn_on y h ef eu q = record {
    only = q.only;
    on = λ _. (y, λ Q d ends a. rw (q.piece, eu Q ends, ef, eh, ep, add-one) (piece_next Q (constraint_at w m) full a (omega arith)));
    back = λ z. absurd (subst T z tt);
    last = λ z. absurd (subst T z tt);
  }

  pub turn_back : {relied : Bool} {w' : List ℕ} → (relied ≡ true → hi ≤ p) → PiecePut m lo lo w w' → Turned e m relied w w' false
  turn_back h q = record {
    only = q.only;
    on = λ z. absurd (subst T (sym z) tt);
    back = λ _ Q. rw (q.piece ∙ ap₂ (interval_of (constraint_at w m).feature) el el) (piece_first Q (constraint_at w m) full);
    last = λ _ y Q d ends a. let l = h y in piece_last Q (constraint_at w m) full a (omega arith);
  }
