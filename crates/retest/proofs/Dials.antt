-- Laws of the dials of an individual: where no constraint lies inside whole, a piece of a dial does, or none does.
use Prim.Native.Nat.{◌+◌, ◌<◌, ◌≤◌, ℕ}
use mathlib.Core.Bool.{Bool, ◌&&◌, ◌||◌, false, true}
use mathlib.Core.List.{List}
use mathlib.Core.Logic.{◌⊎◌, inl, inr, ⊎_elim}
use mathlib.Core.Path.{◌∙◌, ◌≡◌, ap, refl, subst, sym}
use lib.Bits.{bit_or}
use native.Mathlib.Omega.{arith}
use lib.Dec.{T, eqb, eqb→eq, leb, leb→le}
use lib.ListN.{get_or, length}
use Rattle.intervals.specs.Touching.{touches}
use Rattle.layout.specs.Tables.{constraint_at, holder_at, piece_at}
use Rattle.layout.specs.declared.Tables.{Tables}
use Rattle.meaning.specs.Intervals.{Constraint, is_inside}
use Rattle.meaning.specs.Subsumption.{includes}
use Rattle.retest.proofs.Spans.{chosen_may}
use Rattle.retest.specs.Reasons.{Agrees, Choice, TellsDial, TellsPiece, Testing, may_pass}
use Rattle.subsumption.specs.Tests.{has_piece, has_whole, is_piece_inside}
use Rattle.retest.specs.declared.Reason.{Reason}
use Rattle.theory.proofs.Counting.{none_below, some_below}
use Rattle.theory.proofs.Intervals.{inside_of}
use Rattle.theory.proofs.Rules.{T_and, and_T, eqb_of, is_true, order, same_test}
use Rattle.words.proofs.Bits.{bit_or_lem}
use Rattle.words.specs.Sets.{test_bit}

-- ---- one dial after another

-- of those before d, each that may pass is in the mask, and its piece does not lie inside
pub record Missed (dials w : List ℕ) (x f lo hi mask d : ℕ) : Type 0 where
  pub noted : (e : ℕ) → e < d → may_pass w x f lo hi (get_or dials e 0) ≡ true → test_bit mask e ≡ true
  pub outside : (e : ℕ) → e < d → may_pass w x f lo hi (get_or dials e 0) ≡ true → is_inside lo hi (piece_at w (get_or dials e 0)).lo (piece_at w (get_or dials e 0)).hi ≡ false

module _ {dials w : List ℕ} {x f lo hi mask d : ℕ} (p : Missed dials w x f lo hi mask d) {m : ℕ} {r : Reason} (em : m ≡ get_or dials d 0) (g : TellsDial w m d x f lo hi r) where
  here : TellsDial w (get_or dials d 0) d x f lo hi r
  here = rw (← em) g

  last : {P : ℕ → Type 0} → ((e : ℕ) → e < d → P e) → P d → (e : ℕ) → e < d + 1 → P e
  last {P} a h e b = ⊎_elim (a e) (λ c. let z : d ≡ e = omega arith in subst P z h) (order e d)

  pub missed_on : r.holds ≡ false → Missed dials w x f lo hi (bit_or mask r.dials) (d + 1)
  missed_on h = record {
    noted = last (λ e l y. bit_or_lem mask r.dials e ∙ rw (p.noted e l y)) (λ y. bit_or_lem mask r.dials d ∙ rw (here.named y) (or_true (test_bit mask d)));
    outside = last p.outside (λ y. here.inside y ∙ h);
  }
    where
      or_true : (a : Bool) → (a || true) ≡ true
      or_true true = refl
      or_true false = refl

  pub dial_inside : {t : Tables} → Testing dials w t → d < length dials → r.holds ≡ true → TellsPiece dials w t x f lo hi r
  unfolding has_piece constraint_at piece_at
  dial_inside {t} s less y = record { tells = record { same = told } }
    where
      own : T (eqb (holder_at w (get_or dials d 0)) x) × T (eqb f (constraint_at w (get_or dials d 0)).feature && touches lo hi (constraint_at w (get_or dials d 0)).lo (constraint_at w (get_or dials d 0)).hi)
      own = T_and (eqb (holder_at w (get_or dials d 0)) x) _ (is_true (here.may y))

      feature : T (eqb f (constraint_at w (get_or dials d 0)).feature)
      feature = (T_and (eqb f (constraint_at w (get_or dials d 0)).feature) _ own.1).0

      told : (v : ℕ → Constraint) → Choice v w t.constraints → Agrees dials w r.dials v → has_piece v w t.constraints x f lo hi ≡ r.holds
      told v a g =
          let z = g.same d less (here.named (here.may y)) in
          some_below (is_piece_inside v w x f lo hi) t.constraints (get_or dials d 0) (s.placed d less)
          (same_test _ true (λ _. tt) (λ _. and_T (eqb (holder_at w (get_or dials d 0)) x) _ own.0 (subst (λ (u : Constraint). T (includes f lo hi u)) (sym z)
          (and_T (eqb f (constraint_at w (get_or dials d 0)).feature) _ feature (is_true (here.inside (here.may y) ∙ y)))))) ∙ sym y

-- ---- all of them

module _ {dials w : List ℕ} {t : Tables} {x f lo hi mask n : ℕ} (s : Testing dials w t) (none : has_whole w t.constraints x f lo hi ≡ false) (p : Missed dials w x f lo hi mask n) where
  module _ (all : length dials ≤ n) (v : ℕ → Constraint) (a : Choice v w t.constraints) (g : Agrees dials w mask v) (m : ℕ) (less : m < t.constraints) where
    abbrev S : Constraint
    S = constraint_at w m

    module _ (h : T (is_piece_inside v w x f lo hi m)) where
      own : T (eqb (holder_at w m) x)
      own = (T_and (eqb (holder_at w m) x) _ h).0

      part : T (eqb f (v m).feature) × T (is_inside lo hi (v m).lo (v m).hi)
      part = T_and (eqb f (v m).feature) _ (T_and (eqb (holder_at w m) x) _ h).1

      whole : T (eqb S.feature (v m).feature) × T (is_inside S.lo S.hi (v m).lo (v m).hi)
      whole = T_and (eqb S.feature (v m).feature) _ (a.inside m less)

      feature : T (eqb f S.feature)
      feature = eqb_of f S.feature (eqb→eq f (v m).feature part.0 ∙ sym (eqb→eq S.feature (v m).feature whole.0))

      may : may_pass w x f lo hi m ≡ true
      may = chosen_may v w t.constraints x f lo hi m a less h

      never : (S.lo < S.hi) ⊎ (S.hi ≤ S.lo) → ⊥
      unfolding has_piece
      never (inl d) =
          let k = s.known m less d in
          let b = p.noted k.0 (omega (arith, k.1)) (ap (may_pass w x f lo hi) k.2 ∙ may) in
          let u : v m ≡ piece_at w m = subst (λ (i : ℕ). v i ≡ piece_at w i) k.2 (g.same k.0 k.1 b) in
          let o = p.outside k.0 (omega (arith, k.1)) (ap (may_pass w x f lo hi) k.2 ∙ may) in
          subst T (ap (λ (c : Constraint). is_inside lo hi c.lo c.hi) u ∙ ap (λ (i : ℕ). is_inside lo hi (piece_at w i).lo (piece_at w i).hi) (sym k.2) ∙ o) part.1
      never (inr d) =
          let b = T_and (leb S.lo (v m).lo) (leb (v m).hi S.hi) whole.1 in
          let i = leb→le S.lo (v m).lo b.0 in
          let j = leb→le (v m).hi S.hi b.1 in
          let c = T_and (leb lo (v m).lo) (leb (v m).hi hi) part.1 in
          let k = leb→le lo (v m).lo c.0 in
          let l = leb→le (v m).hi hi c.1 in
          let o = a.full m less in
          subst T (sym (some_below (is_piece_inside (constraint_at w) w x f lo hi) t.constraints m less
          (same_test _ true (λ _. tt) (λ _. and_T (eqb (holder_at w m) x) _ own (and_T (eqb f S.feature) _ feature
          (inside_of lo hi S.lo S.hi (omega arith) (omega arith)))))) ∙ none) tt

    fails : (b : Bool) → is_piece_inside v w x f lo hi m ≡ b → b ≡ false
    fails true h = absurd (never (is_true h) (order S.lo S.hi))
    fails false h = refl

  pub dials_end : {r : Reason} → length dials ≤ n → r.holds ≡ false → r.dials ≡ mask → TellsPiece dials w t x f lo hi r
  unfolding has_piece
  dials_end {r} all z e = record {
    tells = record {
      same = λ v a g. none_below (is_piece_inside v w x f lo hi) t.constraints (λ m l. fails all v a (rw e at g) m l (is_piece_inside v w x f lo hi m) refl) ∙ sym z;
    };
  }
