-- Laws of a feature's conjunct: some constraint lies inside whole; or what is asked of the dials is asked of all.
use Prim.Native.Nat.{ℕ}
use mathlib.Core.Bool.{and-true, false, true}
use mathlib.Core.List.{List}
use mathlib.Core.Path.{◌∙◌, ◌≡◌, sym}
use borrow.Author.Tests.{ne_eqb}
use lib.Dec.{T, eqb, eqb→eq}
use Rattle.layout.specs.Tables.{constraint_at, holder_at}
use Rattle.layout.specs.declared.Tables.{Tables}
use Rattle.meaning.specs.Intervals.{Constraint, is_inside}
use Rattle.meaning.specs.Policy.{hi_of, kind_of, lo_of, name_of}
use Rattle.meaning.specs.Subsumption.{includes}
use Rattle.policy.specs.Terms.{conjunct_of}
use Rattle.retest.proofs.Memory.{sure_remembered}
use Rattle.retest.proofs.Spans.{none_passes}
use Rattle.retest.specs.Memory.{Pending, Sure, TellsOne, remembered}
use Rattle.retest.specs.declared.State.TheVariants.{Fails, Passes, Rests}
use Rattle.retest.specs.declared.State.{State}
use Rattle.std.specs.Prelude.{Option, Some}
use Rattle.retest.specs.Reasons.{Choice, Spanned, TellsPiece}
use Rattle.subsumption.specs.Tests.{has_piece, has_whole, holds_at, is_piece_inside}
use Rattle.retest.specs.declared.Reason.{Reason}
use Rattle.theory.proofs.Counting.{below_some, some_below}
use Rattle.theory.proofs.Intervals.{is_inside_trans}
use Rattle.theory.proofs.Rules.{T_and, and_T, eqb_of, is_true, same_test}

-- what lies inside what lies from lo to hi does too
inside_includes : (f lo hi : ℕ) (s p : Constraint) → T (includes f lo hi s) → T (includes s.feature s.lo s.hi p) → T (includes f lo hi p)
inside_includes f lo hi s p h t =
    let a = T_and (eqb f s.feature) (is_inside lo hi s.lo s.hi) h in
    let b = T_and (eqb s.feature p.feature) (is_inside s.lo s.hi p.lo p.hi) t in
    and_T (eqb f p.feature) (is_inside lo hi p.lo p.hi) (eqb_of f p.feature (eqb→eq f s.feature a.0 ∙ eqb→eq s.feature p.feature b.0))
    (is_inside_trans lo hi s.lo s.hi p.lo p.hi a.1 b.1)

-- a constraint that lies inside whole does so whatever the pieces
whole_always : (w : List ℕ) (n x f lo hi : ℕ) → has_whole w n x f lo hi ≡ true → (v : ℕ → Constraint) → Choice v w n → has_piece v w n x f lo hi ≡ true
unfolding has_piece
whole_always w n x f lo hi h v c =
    let m = below_some (is_piece_inside (constraint_at w) w x f lo hi) n h in
    let s = T_and (eqb (holder_at w m.0) x) (includes f lo hi (constraint_at w m.0)) (is_true m.2) in
    some_below (is_piece_inside v w x f lo hi) n m.0 m.1
    (same_test _ true (λ _. tt) (λ _. and_T (eqb (holder_at w m.0) x) _ s.0 (inside_includes f lo hi (constraint_at w m.0) (v m.0) s.1 (c.inside m.0 m.1))))

module _ {q dials c w : List ℕ} {t : Tables} {s : List ℕ} {left k x slot : ℕ} {state : Option State} (g : Pending q dials c w t s left k x slot state) (other : kind_of q k ≡ 3 → ⊥)
    {f lo hi : ℕ} (ef : f ≡ name_of q k) (el : lo ≡ lo_of q k) (eh : hi ≡ hi_of q k) where
  conjunct : (v : ℕ → Constraint) → has_piece v w t.constraints x f lo hi ≡ holds_at v w t (conjunct_of q k) x
  conjunct v = rw (ne_eqb (kind_of q k) 1 g.other.0, ne_eqb (kind_of q k) 2 g.other.1, ne_eqb (kind_of q k) 3 other, ef, el, eh, and-true)

  pub feature_told : {s' : List ℕ} {r : Reason} → Sure q c w t s' → TellsPiece dials w t x f lo hi r → TellsOne q dials c w t k x s' r
  feature_told m h = record { tells = record { same = λ v a d. sym (conjunct v) ∙ h.tells.same v a d }; sure = m }

  module _ {now : State} (h : Spanned w t.constraints x f lo hi now) where
    pub feature_whole : {r : Reason} → now ≡ Passes → r.holds ≡ true → TellsOne q dials c w t k x s r
    feature_whole e y = record {
      tells = record { same = λ v a d. sym (conjunct v) ∙ whole_always w t.constraints x f lo hi (h.passes e) v a ∙ sym y };
      sure = g.asked.sure;
    }

    pub feature_fails : {r : Reason} → now ≡ Fails → r.holds ≡ false → TellsOne q dials c w t k x s r
    feature_fails e z = record {
      tells = record { same = λ v a d. sym (conjunct v) ∙ none_passes v w t.constraints x f lo hi a (h.fails e) ∙ sym z };
      sure = g.asked.sure;
    }

    pub feature_noted : {s' : List ℕ} → now ≡ Rests → s' ≡ remembered s k slot x Rests → Sure q c w t s'
    feature_noted n e = sure_remembered g.asked.sure k slot g.slotted (record {
      passes = λ (z : Some Rests ≡ Some Passes). cc;
      fails = λ (z : Some Rests ≡ Some Fails). cc;
      rests = λ _. record { role = λ z. absurd (other z); feature = λ _. rw (← ef, ← el, ← eh) (h.none (λ z. cc)) };
    }) e
