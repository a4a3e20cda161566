-- Laws of the slices afterwards: when the work slice is full, which refusals come after 21, how many words are written.
use Prim.Native.Nat.{◌<◌, ◌≤◌, ℕ}
use mathlib.Core.Bool.{Bool, cond, false, true}
use mathlib.Core.List.{List, [], ◌∷◌}
use mathlib.Core.Path.{◌∙◌, ◌≡◌, ap, refl, subst, sym}
use lib.Dec.{ltb}
use lib.ListN.{get_or-append, drop, get_or, get_or-replicate, length, length-append, length-drop, length-replicate, replicate}
use lib.Seq.{drop_at}
use native.Mathlib.Omega.{arith}
use borrow.Author.Tests.{ltb-false}
use Rattle.demands.proofs.Orders.{Follows, answering, refusing}
use Rattle.demands.specs.Refusals.{FirstRefusal, here, input_order, later, model_check_order, possible_order}
use Rattle.demands.specs.Slices.{WorkCleared, WritesFirst}
use Rattle.meaning.specs.Answers.{Answer, ComparisonResult, VerdictResult, differs, outside, refused, result}
use Rattle.meaning.specs.Limits.{work_size}
use Rattle.meaning.specs.Lists.{All, ◌∈◌, cons, nil}
use Rattle.meaning.specs.Operations.{Early, Outcome, comes_late, is_late, output_after, work_after, work_refusal, zeroed}
use Rattle.meaning.specs.Policy.{Policy}
use Rattle.meaning.specs.Promises.{CorrectComparison, CorrectVerdict, IsRefusal, agreed, escaped, same, side1, side2, unsaid_comparison}
use Rattle.meaning.specs.Promises.{unsaid_verdict}
use Rattle.meaning.specs.Vocabulary.{Vocabulary}
use Rattle.theory.proofs.Refusals.{model_early, policy_early, second_early, vocabulary_early, work_early}
use Rattle.theory.proofs.Rules.{all_at}

-- ---- a work slice that is full

pub work_full : (w : ℕ) → work_refusal w ≡ 0 → work_size ≤ w
work_full w e = ltb-false w work_size (go (ltb w work_size) e)
  where
    go : (b : Bool) → ◌≡◌ {A = ℕ} (cond b 21 0) 0 → b ≡ false
    go true e = absurd (omega arith)
    go false e = refl

pub result_full : {A : Type 0} {l : List ℕ} {a : Answer A} (w : ℕ) → Follows l a → work_refusal w ∈ l → (IsRefusal a → ⊥) → work_size ≤ w
result_full w (refusing {n = n} f) m t = absurd (t (n, refl))
result_full w (answering z) m t = work_full w (all_at z m)

-- a refusal that comes late passed those that come early
pub past : {n m : ℕ} {l : List ℕ} → FirstRefusal n (m ∷ l) → Early m → is_late n ≡ true → (m ≡ 0) × FirstRefusal n l
past (here h) k g = absurd (let z : ◌≡◌ {A = ℕ} 0 1 = cc in omega arith)
past (later f) k g = (refl, f)

pub after_21 : (v p q : List ℕ) (w : ℕ) {n : ℕ} {l : List ℕ} → FirstRefusal n (input_order v p q w l) → is_late n ≡ true → work_size ≤ w
after_21 v p q w f g =
    let a = past f (vocabulary_early v) g in
    let b = past a.1 (policy_early v p) g in
    let c = past b.1 (second_early v q) g in
    let d = past c.1 (work_early w) g in
    work_full w d.0

pub possible_early : (v p : List ℕ) (w : ℕ) → All Early (possible_order v p w)
possible_early v p w = cons (vocabulary_early v) (cons (policy_early v p) (cons (work_early w) nil))

pub model_check_early : (v p q m : List ℕ) (w : ℕ) → All Early (model_check_order v p q m w)
model_check_early v p q m w = cons (vocabulary_early v) (cons (policy_early v p) (cons (second_early v q) (cons (model_early v m) (cons (work_early w) nil))))

pub result_late : {A : Type 0} (a : Answer A) → (IsRefusal a → ⊥) → comes_late a ≡ true
result_late (refused n) t = absurd (t (n, refl))
result_late (result a) t = refl

-- ---- the slices afterwards

zeroed_length : (n : ℕ) (w : List ℕ) → n ≤ length w → length (zeroed n w) ≡ length w
unfolding zeroed
zeroed_length n w h = let zeros : List ℕ = replicate n 0 in omega (arith, length-append zeros (drop n w), length-replicate {A = ℕ} n 0, length-drop n w)

zeroed_first : (n : ℕ) (w : List ℕ) (i : ℕ) → i < n → get_or (zeroed n w) i 0 ≡ 0
unfolding zeroed
zeroed_first n w i h = get_or-append (replicate n 0) (drop n w) 0 i (omega (arith, length-replicate {A = ℕ} n 0)) ∙ get_or-replicate n i 0 0 h

zeroed_later : (n : ℕ) (w : List ℕ) → drop n (zeroed n w) ≡ drop n w
unfolding zeroed
zeroed_later n w = drop_at (replicate n 0) (drop n w) n (length-replicate n 0)

pub work_kept : {A : Type 0} (a : Answer A) {w w' : List ℕ} → comes_late a ≡ false → w' ≡ work_after a w → w' ≡ w
unfolding work_after
work_kept a t e = rw t at e

pub work_cleared : {A : Type 0} (a : Answer A) {w w' : List ℕ} → comes_late a ≡ true → work_size ≤ length w → w' ≡ work_after a w → WorkCleared w w'
unfolding work_after
work_cleared a {w} {w'} t full e = subst (λ (x : List ℕ). WorkCleared w x) (sym (rw t at e)) (record {
  full = full;
  size = zeroed_length work_size w full;
  zeros = zeroed_first work_size w;
  later = zeroed_later work_size w;
})

pub writes_first : {n : ℕ} (words : List ℕ) {o o' : List ℕ} → n ≡ length words → length words ≤ length o → o' ≡ output_after words o → WritesFirst n o o'
unfolding output_after
writes_first {n} words {o} {o'} e l d = record {
  fits = omega arith;
  size = ap length d ∙ omega (arith, length-append words (drop (length words) o), length-drop (length words) o);
  later = ap (drop n) d ∙ drop_at words (drop (length words) o) n (sym e) ∙ ap (λ (k : ℕ). drop k o) (sym e);
}

-- ---- the words that are written

pub verdict_written : {K : Vocabulary} {P Q : Policy} {o : ℕ} (x : Outcome VerdictResult) → CorrectVerdict K P Q o x → {s k n : ℕ} → x.answer ≡ result (outside s k n) →
    (n ≡ length x.words) × (length x.words ≤ o)
verdict_written x (unsaid_verdict m) e = absurd (let z : ◌≡◌ {A = ℕ} 0 1 = cc in omega arith)
verdict_written x (agreed h) e = absurd (let z : ◌≡◌ {A = ℕ} 0 1 = cc in omega arith)
verdict_written x (escaped i k words h l) e = ((cc), l)

pub verdict_silent : {K : Vocabulary} {P Q : Policy} {o : ℕ} (x : Outcome VerdictResult) → CorrectVerdict K P Q o x → ((s k n : ℕ) → x.answer ≡ result (outside s k n) → ⊥) → x.words ≡ []
verdict_silent x (unsaid_verdict n) f = refl
verdict_silent x (agreed h) f = refl
verdict_silent x (escaped s k words h l) f = absurd (f _ _ _ refl)

pub comparison_written : {K : Vocabulary} {P Q : Policy} {o : ℕ} (x : Outcome ComparisonResult) → CorrectComparison K P Q o x → {side s k n : ℕ} → x.answer ≡ result (differs side s k n) →
    (n ≡ length x.words) × (length x.words ≤ o)
comparison_written x (unsaid_comparison m) e = absurd (let z : ◌≡◌ {A = ℕ} 0 1 = cc in omega arith)
comparison_written x (same h) e = absurd (let z : ◌≡◌ {A = ℕ} 0 1 = cc in omega arith)
comparison_written x (side1 i k words h l) e = ((cc), l)
comparison_written x (side2 i k words d h l) e = ((cc), l)

pub comparison_silent : {K : Vocabulary} {P Q : Policy} {o : ℕ} (x : Outcome ComparisonResult) → CorrectComparison K P Q o x →
    ((side s k n : ℕ) → x.answer ≡ result (differs side s k n) → ⊥) → x.words ≡ []
comparison_silent x (unsaid_comparison n) f = refl
comparison_silent x (same h) f = refl
comparison_silent x (side1 s k words h l) f = absurd (f _ _ _ _ refl)
comparison_silent x (side2 s k words d h l) f = absurd (f _ _ _ _ refl)
