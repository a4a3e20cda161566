-- Laws of the whole: what the model refutes, and the operation.
use Prim.Native.Nat.{ℕ}
use mathlib.Core.Bool.{Bool, cond, false, not, true}
use mathlib.Core.List.{List, []}
use mathlib.Core.Path.{◌∙◌, ◌≡◌, ap, refl, subst, sym}
use lib.ListN.{length}
use native.Mathlib.Omega.{arith}
use Rattle.std.specs.Prelude.{Err, Ok, Result}
use borrow.Author.Tests.{not-false, not-true}
use Rattle.extension.specs.Sets.{Extended}
use Rattle.frames.proofs.Frames.{only_span, only_then}
use Rattle.frames.proofs.Work.{Done, done_answered, done_before, done_full, done_refused, in_order, outputs_none}
use Rattle.frames.specs.Frames.{Cleared, Only, Span}
use Rattle.meaning.specs.Answers.{CheckResult, checked_answer, no, result, yes}
use Rattle.meaning.specs.Limits.{work_size}
use Rattle.meaning.specs.Model.{model_refusal}
use Rattle.meaning.specs.ModelCheck.{refutes}
use Rattle.meaning.specs.Operations.{Early, Outcome, input_refusal, model_check, says, work_refusal}
use Rattle.meaning.specs.Promises.{CorrectCheck}
use Rattle.meaning.specs.Records.{or_else}
use Rattle.meaning.specs.Refusals.{refusal_number}
use Rattle.meaning.specs.declared.refusals.Refusal.{Refusal}
use Rattle.model_check.specs.Judging.{Checkable, ModelCheckPost, Parted, is_refuted, tables_refusal}
use Rattle.satisfaction.specs.Classes.{Satisfied}
use Rattle.theory.proofs.Checking.{check_judged}
use Rattle.theory.proofs.Refusals.{accepted_input, input_early, model_early, or_else_assoc, or_else_early, or_else_first, or_else_zero}
use Rattle.theory.proofs.Refusals.{says_unless}
use Rattle.theory.proofs.Numbers.{refusal_numbered}

-- ---- what is refuted

-- b tells whether individual 1 is in the first policy, and t whether it is in the second
module _ {p q m w w₁ : List ℕ} {b : Bool} (x : Extended p m w w₁ b) where
  pub not_inside : not b ≡ true → Parted p q m w w₁ false
  not_inside g = record { told = rw (← x.told, not-true b g); only = x.only }

  pub not_outside : {w₂ : List ℕ} {t : Bool} → not b ≡ false → Extended q m w₁ w₂ t → Parted p q m w w₂ (not t)
  not_outside g y = record { told = rw (← x.told, not-false b g, y.told); only = only_then x.only y.only }

-- b tells whether the vocabulary is satisfied, and t whether the policies are told apart
module _ {v m w w₁ : List ℕ} {b : Bool} (s : Satisfied v m w w₁ b) where
  pub satisfied_only : Only (Span 0 work_size) w w₁
  satisfied_only = only_span s.only (omega arith) (omega arith)

  pub unsatisfied : (p q : List ℕ) → not b ≡ true → false ≡ is_refuted v p q m
  unfolding refutes
  unsatisfied p q h = rw (← s.told, not-true b h)

  module _ {p q w₂ : List ℕ} {t : Bool} (x : Parted p q m w₁ w₂ t) where
    pub parted : not b ≡ false → t ≡ is_refuted v p q m
    unfolding refutes
    parted h = x.told ∙ rw (← s.told, not-false b h)

    pub parted_only : Only (Span 0 work_size) w w₂
    parted_only = only_then satisfied_only (only_span x.only (omega arith) (omega arith))

-- ---- the refusals in their order

module _ (v p q m : List ℕ) {n : ℕ} (e : n ≡ input_refusal v p q) where
  pub refused_input : (n ≡ 0 → ⊥) → n ≡ tables_refusal v p q m
  refused_input h = e ∙ or_else_first (input_refusal v p q) (model_refusal v m) (λ z. h (e ∙ z))

  pub refused_model : {k : ℕ} → n ≡ 0 → k ≡ model_refusal v m → k ≡ tables_refusal v p q m
  refused_model z f = f ∙ rw (sym e ∙ z)

tables_early : (v p q m : List ℕ) → Early (tables_refusal v p q m)
tables_early v p q m = or_else_early (input_refusal v p q) (model_refusal v m) (input_early v p q) (model_early v m)

-- ---- the answer, and the work slice afterwards

abbrev told : List ℕ → List ℕ → List ℕ → List ℕ → Outcome CheckResult
told v p q m = says (cond (is_refuted v p q m) yes no)

pub check_post : {v p q m w w' : List ℕ} {a : Result Bool Refusal} → Done (tables_refusal v p q m) (told v p q m) (checked_answer a) w w' [] [] → ModelCheckPost v p q m w w' a
unfolding model_check
check_post {v} {p} {q} {m} {w} {a = a} d = record { answer = same; work = d.work; right = subst (CorrectCheck v p q m) (sym same) (check_judged v p q m (length w)) }
  where
    outside : (b : Bool) → result (cond b yes no) ≡ cond b (result yes) (result no)
    outside true = refl
    outside false = refl

    same : checked_answer a ≡ model_check v p q m (length w)
    same =
        d.answer ∙ says_unless (or_else (tables_refusal v p q m) (work_refusal (length w))) (cond (is_refuted v p q m) yes no)
        ∙ rw (outside (is_refuted v p q m), ← or_else_assoc (input_refusal v p q) (model_refusal v m) (work_refusal (length w)))

module _ {v p q m w : List ℕ} where
  -- what is refused of the tables, or of the work slice where of them nothing is
  pub refuses_tables : {e : Refusal} → refusal_number e ≡ tables_refusal v p q m → ModelCheckPost v p q m w w (Err e)
  refuses_tables {e} f =
      let n = refusal_numbered e in
      check_post (done_refused (in_order w f (or_else_first (refusal_number e) (work_refusal (length w)) n)) (told v p q m) [] (tables_early v p q m) n)

  module _ (e : 0 ≡ tables_refusal v p q m) where
    pub refuses_work : {r : Refusal} → refusal_number r ≡ work_refusal (length w) → ModelCheckPost v p q m w w (Err r)
    refuses_work {r} f = check_post (done_refused (in_order w e f) (told v p q m) [] (tables_early v p q m) (refusal_numbered r))

    module _ (f : 0 ≡ work_refusal (length w)) where
      pub checkable : Checkable v p q m w
      checkable =
          let t = or_else_zero (input_refusal v p q) (model_refusal v m) (sym e) in
          record { input = accepted_input v p q t.0; model = t.1; long = done_full (in_order w e f) refl }

      -- b is what the model tells
      pub says_it : {b : Bool} {w₁ w₂ : List ℕ} → b ≡ is_refuted v p q m → Only (Span 0 work_size) w w₁ → Cleared 0 work_size w₁ w₂ → ModelCheckPost v p q m w w₂ (Ok b)
      says_it d o c = check_post (done_answered (in_order w e f) refl {told = told v p q m} refl (ap (λ (t : Bool). result (cond t yes no)) d) (outputs_none []) o c)
