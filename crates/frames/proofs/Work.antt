-- Laws of the work slice at the two ends of an operation: 21, and words that become 0.
use Prim.Native.Nat.{◌+◌, ◌-◌, ◌<◌, ◌≤◌, suc, zero, ℕ}
use mathlib.Core.Bool.{Bool, false, true}
use mathlib.Core.List.{List, [], ◌++◌}
use mathlib.Core.Logic.{◌⊎◌, inl, inr, ⊎_elim}
use mathlib.Core.Path.{◌∙◌, ◌≡◌, ap, refl, sym}
use lib.Dec.{eqb}
use lib.ListN.{get_or-append, drop, get_or, get_or-replicate, length, length-append, length-drop, length-replicate, replicate, set}
use lib.Seq.{ext_get_or, get_or-append-add, get_or-drop, get_or-set_other, get_or-set_same}
use native.Mathlib.Omega.{arith}
use borrow.Author.Tests.{eqb-false, eqb-true, le-ltb, lt-ltb}
use Rattle.frames.proofs.Frames.{only_behind, only_none, only_set, only_span}
use Rattle.frames.specs.Frames.{Cleared, Only, Span}
use Rattle.meaning.specs.Answers.{Answer, refused}
use Rattle.meaning.specs.Limits.{work_size}
use Rattle.meaning.specs.Operations.{Early, Outcome, comes_late, output_after, refuses, unless, work_after, work_refusal, zeroed}
use Rattle.meaning.specs.Records.{or_else}
use Rattle.theory.proofs.Refusals.{or_else_early, or_else_first, or_else_zero, work_early}
use Rattle.theory.proofs.Rules.{order}

-- ---- 21

module _ (n w : ℕ) where
  pub refused_before : (n ≡ 0 → ⊥) → n ≡ or_else n (work_refusal w)
  refused_before h = or_else_first n (work_refusal w) h

  pub refused_21 : n ≡ 0 → w < work_size → 21 ≡ or_else n (work_refusal w)
  refused_21 e h = rw (e, lt-ltb w work_size h)

  pub refused_none : n ≡ 0 → work_size ≤ w → 0 ≡ or_else n (work_refusal w)
  refused_none e h = rw (e, le-ltb w work_size h)

  -- where nothing is refused, the slice is full
  pub none_before : or_else n (work_refusal w) ≡ 0 → n ≡ 0
  none_before e = (or_else_zero n (work_refusal w) e).0

  pub none_full : or_else n (work_refusal w) ≡ 0 → work_size ≤ w
  none_full e = go (order w work_size) (or_else_zero n (work_refusal w) e).1
    where
      go : (w < work_size) ⊎ (work_size ≤ w) → work_refusal w ≡ 0 → work_size ≤ w
      go (inl h) z = absurd (let y = lt-ltb w work_size h in let x : ◌≡◌ {A = ℕ} 21 0 = rw y at z in omega arith)
      go (inr h) z = h

-- ---- words that are 0

pub cleared_none : {at : ℕ} {w : List ℕ} → at ≤ length w → Cleared at 0 w w
cleared_none h = record { fits = omega arith; only = only_none; zeros = λ i f g. absurd (omega arith) }

pub cleared_more : {at n : ℕ} {w w' : List ℕ} → at + n < length w → Cleared at n w w' → Cleared at (n + 1) w (set w' (at + n) 0)
cleared_more {at} {n} {w} {w'} l e = record {
  fits = omega arith;
  only = only_set (at + n) 0 (record { low = omega arith; high = omega arith }) (only_span e.only (omega arith) (omega arith));
  zeros = λ i f g. go i f g (eqb i (at + n)) refl;
}
  where
    go : (i : ℕ) → at ≤ i → i < at + (n + 1) → (b : Bool) → eqb i (at + n) ≡ b → get_or (set w' (at + n) 0) i 0 ≡ 0
    go i f g true d =
        ap (λ (j : ℕ). get_or (set w' (at + n) 0) j 0) (eqb-true i (at + n) d) ∙ get_or-set_same w' (at + n) 0 0 (omega arith)
    go i f g false d = let z = eqb-false i (at + n) d in get_or-set_other w' (at + n) i 0 0 z ∙ e.zeros i f (omega arith)

-- words of which the first n are 0 and the others those of w
zeroed_words : (n : ℕ) (w w' : List ℕ) → n ≤ length w → length w' ≡ length w → ((i : ℕ) → i < n → get_or w' i 0 ≡ 0) →
    ((i : ℕ) → n ≤ i → get_or w' i 0 ≡ get_or w i 0) → w' ≡ zeroed n w
unfolding zeroed
zeroed_words n w w' h e z f = ext_get_or 0 w' (zeros ++ drop n w) sizes (λ i l. ⊎_elim (first i) (rest i) (order i n))
  where
    zeros : List ℕ
    zeros = replicate n 0

    count : length zeros ≡ n
    count = length-replicate n 0

    sizes : length w' ≡ length (zeros ++ drop n w)
    sizes = omega (arith, count, length-append zeros (drop n w), length-drop n w)

    first : (i : ℕ) → i < n → get_or w' i 0 ≡ get_or (zeros ++ drop n w) i 0
    first i l = z i l ∙ sym (get_or-append zeros (drop n w) 0 i (omega (arith, count)) ∙ get_or-replicate n i 0 0 l)

    rest : (i : ℕ) → n ≤ i → get_or w' i 0 ≡ get_or (zeros ++ drop n w) i 0
    rest i l =
        let k : length zeros + (i - n) ≡ i = omega (arith, count) in
        let j : n + (i - n) ≡ i = omega arith in
        f i l ∙ ap (λ (x : ℕ). get_or w x 0) (sym j) ∙ sym (get_or-drop n w (i - n) 0) ∙ sym (get_or-append-add zeros (drop n w) (i - n) 0) ∙ ap (λ (x : ℕ). get_or (zeros ++ drop n w) x 0) k

-- where all that was worked in becomes 0, only what stands after counts
pub cleared_all : {w w₁ w₂ : List ℕ} → Only (Span 0 work_size) w w₁ → Cleared 0 work_size w₁ w₂ → w₂ ≡ zeroed work_size w
cleared_all {w} {w₁} {w₂} o c =
    let s = o.size in
    zeroed_words work_size w w₂ (omega arith) (c.only.size ∙ s) (λ i h. c.zeros i (omega arith) (omega arith))
    (λ i h. only_behind c.only i (omega arith) ∙ only_behind o i h)

-- no words leave the output as it was
pub outputs_none : (o : List ℕ) → o ≡ output_after [] o
unfolding output_after
outputs_none o = refl

-- ---- the shell of an operation: its refusals in order, the answer by the work, and the work cleared

-- the answer, the output and the work slice of an operation with these refusals before 21 and this outcome after it
pub record Done {A : Type 0} (before : ℕ) (told : Outcome A) (a : Answer A) (w w' o o' : List ℕ) : Type 0 where
  pub answer : a ≡ (unless refuses (or_else before (work_refusal (length w))) told).answer
  pub output : o' ≡ output_after (unless refuses (or_else before (work_refusal (length w))) told).words o
  pub work : w' ≡ work_after a w

-- r is the first refusal, of the tables or 21; 0 for none
pub record Refusing (before : ℕ) (w : List ℕ) (r : ℕ) : Type 0 where
  pub first : r ≡ or_else before (work_refusal (length w))

pub in_order : {before m r : ℕ} (w : List ℕ) → m ≡ before → r ≡ or_else m (work_refusal (length w)) → Refusing before w r
in_order w e f = record { first = f ∙ ap (λ (n : ℕ). or_else n (work_refusal (length w))) e }

module _ {before r : ℕ} {w : List ℕ} (x : Refusing before w r) where
  pub done_refused : {A : Type 0} (told : Outcome A) (o : List ℕ) → Early before → (r ≡ 0 → ⊥) → Done before told (refused r) w w o o
  unfolding work_after output_after
  done_refused {A} told o h n = record {
    answer = (go r n).0 ∙ ap (λ (k : ℕ). (unless refuses k told).answer) x.first;
    output = ap (λ (l : List ℕ). l ++ drop (length l) o) ((go r n).1 ∙ ap (λ (k : ℕ). (unless refuses k told).words) x.first);
    work = let early : Early r = rw x.first (or_else_early before (work_refusal (length w)) h (work_early (length w))) in rw early;
  }
    where
      go : (r : ℕ) → (r ≡ 0 → ⊥) → (refused r ≡ (unless refuses r told).answer) × ([] ≡ (unless refuses r told).words)
      go zero n = absurd (n refl)
      go (suc r) n = (refl, refl)

  module _ (z : r ≡ 0) where
    pub done_before : before ≡ 0
    done_before = none_before before (length w) (sym x.first ∙ z)

    pub done_full : work_size ≤ length w
    done_full = none_full before (length w) (sym x.first ∙ z)

    -- w₁ is the slice when the answer is found
    pub done_answered : {A : Type 0} {told : Outcome A} {a : Answer A} {o o' w₁ w₂ : List ℕ} → comes_late told.answer ≡ true → a ≡ told.answer →
        o' ≡ output_after told.words o → Only (Span 0 work_size) w w₁ → Cleared 0 work_size w₁ w₂ → Done before told a w w₂ o o'
    unfolding work_after
    done_answered {told = told} {o = o} late d g b c = record {
      answer = d ∙ ap (λ (k : ℕ). (unless refuses k told).answer) (sym z ∙ x.first);
      output = g ∙ ap (λ (k : ℕ). output_after (unless refuses k told).words o) (sym z ∙ x.first);
      work = rw (ap comes_late d ∙ late) (cleared_all b c);
    }
