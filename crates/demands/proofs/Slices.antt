-- Demand 1: what is written, SPECIFICATION 9.9, and nothing else, of each operation that is lent a work slice.
use Rattle.demands.specs.Refusals.{RefusedWith}
use Rattle.meaning.specs.declared.refusals.Refusal.{Refusal}
use Rattle.std.specs.Prelude.{Ok, Option, Result}
use Prim.Native.Nat.{ℕ}
use mathlib.Core.List.{List}
use mathlib.Core.Path.{◌∙◌, ◌≡◌, ap, refl, sym}
use lib.ListN.{length}
use native.Mathlib.Omega.{arith}
use mathlib.Core.Bool.{true, Bool, cond}
use Rattle.containment.specs.Verdicts.{CompliancePost, PossiblePost}
use Rattle.demands.proofs.Afterwards.{after_21, comparison_silent, comparison_written, model_check_early, possible_early}
use Rattle.demands.proofs.Afterwards.{result_full, result_late, verdict_silent, verdict_written, work_cleared, work_kept}
use Rattle.demands.proofs.Afterwards.{writes_first}
use Rattle.demands.proofs.Orders.{compliance_follows, equality_follows, first_all, model_check_follows, possible_follows}
use Rattle.demands.proofs.Refusals.{compliance_refused_iff, equality_refused_iff, model_check_refused_iff, possible_refused_iff, refused_answer}
use Rattle.demands.specs.Enough.{Answers, Compares}
use Rattle.demands.specs.Slices.{WorkCleared, WritesFirst}
use Rattle.equality.specs.Comparisons.{EqualityPost}
use Rattle.meaning.specs.Answers.{checked_answer, comparison_answer, differs, outside, possibility_answer, refused, result, verdict_answer, verdict_of, comparison_of, possibility_of, yes, no}
use Rattle.meaning.specs.Operations.{Early, compliance, equality, is_late, output_after, work_after}
use Rattle.meaning.specs.Promises.{IsRefusal}
use Rattle.meaning.specs.declared.Comparison.{Comparison}
use Rattle.meaning.specs.declared.Verdict.{Verdict}
use Rattle.model_check.specs.Judging.{ModelCheckPost}
use Rattle.meaning.specs.Lists as lists
use Rattle.meaning.specs.declared.Comparison.TheVariants as comparison
use Rattle.meaning.specs.declared.Verdict.TheVariants as verdict
use Rattle.theory.proofs.Compliance.{compliance_told}
use Rattle.theory.proofs.Equality.{equality_compared}

-- ---- Compliance

module _ {v p q w w' o o' : List ℕ} {r : Result Verdict Refusal} (c : CompliancePost v p q w w' o o' r) where
  -- an early refusal writes nothing in the work slice
  pub compliance_refused_early_work : {n : ℕ} → RefusedWith r n → Early n → w' ≡ w
  compliance_refused_early_work {n} e l = work_kept (refused n) l (c.work ∙ ap (λ a. work_after a w) (refused_answer verdict_of r e))

  -- a late refusal leaves the first 16,384 words of the work slice 0, and later ones as they were
  pub compliance_refused_late_work : {n : ℕ} → RefusedWith r n → is_late n ≡ true → WorkCleared w w'
  compliance_refused_late_work {n} e l = work_cleared (refused n) l (after_21 v p q (length w) ((compliance_refused_iff c).0 e) l) (c.work ∙ ap (λ a. work_after a w) (refused_answer verdict_of r e))

  -- so does a result
  pub compliance_result_work : Answers r → WorkCleared w w'
  compliance_result_work t =
      let f = compliance_follows v p q (length w) (length o) in
      let full = result_full (length w) f (lists.there (lists.there (lists.there (lists.here refl)))) (λ x. t (x.0, c.answer ∙ x.1)) in
      work_cleared (verdict_answer r) (result_late (verdict_answer r) t) full c.work

  silent_verdict : ((s k n : ℕ) → verdict_answer r ≡ result (outside s k n) → ⊥) → o' ≡ o
  unfolding output_after
  silent_verdict f =
      c.output
      ∙ ap (λ (l : List ℕ). output_after l o)
      (verdict_silent (compliance v p q (length w) (length o)) (compliance_told v p q (length w) (length o)) (λ s k n e. f s k n (c.answer ∙ e)))

  -- a refusal leaves the output
  pub refusal_silent : {n : ℕ} → RefusedWith r n → o' ≡ o
  refusal_silent e = silent_verdict (λ s k n h. let x = refused_answer verdict_of r e in absurd (let z : ◌≡◌ {A = ℕ} 0 1 = cc in omega arith))

  -- "compliant" leaves the output
  pub compliant_silent : r ≡ Ok verdict.Compliant → o' ≡ o
  compliant_silent e = silent_verdict (λ s k n h. let x = ap verdict_answer e in absurd (let z : ◌≡◌ {A = ℕ} 0 1 = cc in omega arith))

  -- a countermodel is written at the front of the output, and what follows is as it was
  pub outside_output : {s k n : ℕ} → r ≡ Ok (verdict.Outside s k n) → WritesFirst n o o'
  outside_output e =
      let h = verdict_written _ (compliance_told v p q (length w) (length o)) (sym c.answer ∙ ap verdict_answer e) in
      writes_first _ h.0 h.1 c.output

-- ---- Equality

module _ {v p q w w' o o' : List ℕ} {r : Result Comparison Refusal} (c : EqualityPost v p q w w' o o' r) where
  -- an early refusal leaves the work slice
  pub equality_refused_early_work : {n : ℕ} → RefusedWith r n → Early n → w' ≡ w
  equality_refused_early_work {n} e l = work_kept (refused n) l (c.work ∙ ap (λ a. work_after a w) (refused_answer comparison_of r e))

  -- a late one leaves the first 16,384 work words 0 and later ones untouched
  pub equality_refused_late_work : {n : ℕ} → RefusedWith r n → is_late n ≡ true → WorkCleared w w'
  equality_refused_late_work {n} e l = work_cleared (refused n) l (after_21 v p q (length w) ((equality_refused_iff c).0 e) l) (c.work ∙ ap (λ a. work_after a w) (refused_answer comparison_of r e))

  -- a result leaves the first 16,384 work words 0 and later ones untouched
  pub equality_result_work : Compares r → WorkCleared w w'
  equality_result_work t =
      let f = equality_follows v p q (length w) (length o) in
      let full = result_full (length w) f (lists.there (lists.there (lists.there (lists.here refl)))) (λ x. t (x.0, c.answer ∙ x.1)) in
      work_cleared (comparison_answer r) (result_late (comparison_answer r) t) full c.work

  silent_comparison : ((side s k n : ℕ) → comparison_answer r ≡ result (differs side s k n) → ⊥) → o' ≡ o
  unfolding output_after
  silent_comparison f =
      c.output
      ∙ ap (λ (l : List ℕ). output_after l o)
      (comparison_silent (equality v p q (length w) (length o)) (equality_compared v p q (length w) (length o)) (λ side s k n e. f side s k n (c.answer ∙ e)))

  -- a refusal leaves the output
  pub refused_silent : {n : ℕ} → RefusedWith r n → o' ≡ o
  refused_silent e = silent_comparison (λ side s k n h. let x = refused_answer comparison_of r e in absurd (let z : ◌≡◌ {A = ℕ} 0 1 = cc in omega arith))

  -- "equal" leaves the output
  pub equal_silent : r ≡ Ok comparison.Equal → o' ≡ o
  equal_silent e = silent_comparison (λ side s k n h. let x = ap comparison_answer e in absurd (let z : ◌≡◌ {A = ℕ} 0 1 = cc in omega arith))

  -- a countermodel is written at the front of the output, and what follows is as it was
  pub differs_output : {side s k n : ℕ} → r ≡ Ok (comparison.Differs side s k n) → WritesFirst n o o'
  differs_output e =
      let h = comparison_written _ (equality_compared v p q (length w) (length o)) (sym c.answer ∙ ap comparison_answer e) in
      writes_first _ h.0 h.1 c.output

-- ---- Possible: 21 is its last refusal

module _ {v p w w' : List ℕ} {r : Result (Option ℕ) Refusal} (c : PossiblePost v p w w' r) where
  -- every refusal leaves the work slice
  pub possible_refused_work : {n : ℕ} → RefusedWith r n → w' ≡ w
  possible_refused_work {n} e = work_kept (refused n) (first_all (possible_early v p (length w)) ((possible_refused_iff c).0 e)) (c.work ∙ ap (λ a. work_after a w) (refused_answer possibility_of r e))

  -- a result leaves the first 16,384 work words 0 and later ones untouched
  pub possible_result_work : (IsRefusal (possibility_answer r) → ⊥) → WorkCleared w w'
  possible_result_work t =
      let f = possible_follows v p (length w) in
      let full = result_full (length w) f (lists.there (lists.there (lists.here refl))) (λ x. t (x.0, c.answer ∙ x.1)) in
      work_cleared (possibility_answer r) (result_late (possibility_answer r) t) full c.work

-- ---- Model check: 21 is its last refusal, and it is lent no output

module _ {v p q m w w' : List ℕ} {r : Result Bool Refusal} (c : ModelCheckPost v p q m w w' r) where
  -- every refusal leaves the work slice, 31 to 33 too
  pub model_check_refused_work : {n : ℕ} → RefusedWith r n → w' ≡ w
  model_check_refused_work {n} e = work_kept (refused n) (first_all (model_check_early v p q m (length w)) ((model_check_refused_iff c).0 e)) (c.work ∙ ap (λ a. work_after a w) (refused_answer (λ (b : Bool). cond b yes no) r e))

  -- a result leaves the first 16,384 work words 0 and later ones untouched
  pub model_check_result_work : (IsRefusal (checked_answer r) → ⊥) → WorkCleared w w'
  model_check_result_work t =
      let f = model_check_follows v p q m (length w) in
      let full = result_full (length w) f (lists.there (lists.there (lists.there (lists.there (lists.here refl))))) (λ x. t (x.0, c.answer ∙ x.1)) in
      work_cleared (checked_answer r) (result_late (checked_answer r) t) full c.work
