-- Demand 2 of Model check, and that it says yes to every countermodel that Compliance or Equality writes.
use mathlib.Core.Bool.{true, Bool, false}
use Rattle.meaning.specs.declared.refusals.Refusal.{Refusal}
use Rattle.std.specs.Prelude.{Err, Ok, Result}
use Prim.Native.Nat.{◌≤◌, ℕ}
use mathlib.Core.List.{List}
use mathlib.Core.Logic.{◌↔◌}
use mathlib.Core.Path.{◌∙◌, ◌≡◌, ap, refl, sym}
use lib.ListN.{length, take}
use native.Mathlib.Omega.{arith}
use Rattle.containment.specs.Verdicts.{CompliancePost}
use Rattle.decision.proofs.Policies.{taken}
use Rattle.demands.proofs.Afterwards.{comparison_written, verdict_written}
use Rattle.equality.specs.Comparisons.{EqualityPost}
use Rattle.meaning.specs.Answers.{checked_answer, result, yes}
use Rattle.meaning.specs.Limits.{work_size}
use Rattle.meaning.specs.Operations.{compliance, equality, model_check}
use Rattle.meaning.specs.Promises.{Countered, IsRefusal}
use Rattle.model_check.specs.Judging.{ModelCheckPost}
use Rattle.meaning.specs.declared.Comparison.TheVariants as comparison
use Rattle.meaning.specs.declared.Verdict.TheVariants as verdict
use Rattle.theory.proofs.Checking.{check_right}
use Rattle.theory.proofs.Compliance.{compliance_told}
use Rattle.theory.proofs.Equality.{equality_compared}
use Rattle.theory.proofs.Written.{first_checked, second_checked, written_checked}

is_yes_lem : (r : Result Bool Refusal) → checked_answer r ≡ result yes → r ≡ Ok true
is_yes_lem (Ok true) e = refl
is_yes_lem (Ok false) e = absurd (let z : ◌≡◌ {A = ℕ} 0 1 = cc in omega arith)
is_yes_lem (Err x) e = absurd (let z : ◌≡◌ {A = ℕ} 0 1 = cc in omega arith)

-- demand 2: yes if and only if it satisfies the vocabulary and has individual 1 in the first policy and outside the second
pub yes_where : {v p q m w w' : List ℕ} {r : Result Bool Refusal} → ModelCheckPost v p q m w w' r → (IsRefusal (checked_answer r) → ⊥) → (r ≡ Ok true) ↔ Countered v p q m
yes_where {v} {p} {q} {m} {w} {r = r} j t =
    let e = j.answer in
    let h = check_right v p q m (length w) (λ x. t (x.0, e ∙ x.1)) in
    (λ y. h.0 (sym e ∙ ap checked_answer y), λ y. is_yes_lem r (e ∙ h.1 y))

-- demand 2: every countermodel that is written is answered yes, with any full work slice
pub outside_checked : {v p q w w' o o' : List ℕ} {s c n : ℕ} → CompliancePost v p q w w' o o' (Ok (verdict.Outside s c n)) → {w₁ w₁' : List ℕ} {r : Result Bool Refusal} →
    ModelCheckPost v p q (take n o') w₁ w₁' r → work_size ≤ length w₁ → r ≡ Ok true
outside_checked {v} {p} {q} {w} {o = o} {n = n} a {w₁} {r = r} j l =
    let x = sym a.answer in
    let y = taken (compliance v p q (length w) (length o)).words o n (verdict_written _ (compliance_told v p q (length w) (length o)) x).0 a.output in
    is_yes_lem r (j.answer ∙ ap (λ (m : List ℕ). model_check v p q m (length w₁)) (sym y) ∙ written_checked v p q (length w) (length o) x (length w₁) l)

pub first_side_checked : {v p q w w' o o' : List ℕ} {s c n : ℕ} → EqualityPost v p q w w' o o' (Ok (comparison.Differs 1 s c n)) → {w₁ w₁' : List ℕ} {r : Result Bool Refusal} →
    ModelCheckPost v p q (take n o') w₁ w₁' r → work_size ≤ length w₁ → r ≡ Ok true
first_side_checked {v} {p} {q} {w} {o = o} {n = n} a {w₁} {r = r} j l =
    let x = sym a.answer in
    let y = taken (equality v p q (length w) (length o)).words o n (comparison_written _ (equality_compared v p q (length w) (length o)) x).0 a.output in
    is_yes_lem r (j.answer ∙ ap (λ (m : List ℕ). model_check v p q m (length w₁)) (sym y) ∙ first_checked v p q (length w) (length o) x (length w₁) l)

-- a side 2 countermodel with the policies in the other order
pub second_side_checked : {v p q w w' o o' : List ℕ} {s c n : ℕ} → EqualityPost v p q w w' o o' (Ok (comparison.Differs 2 s c n)) → {w₁ w₁' : List ℕ} {r : Result Bool Refusal} →
    ModelCheckPost v q p (take n o') w₁ w₁' r → work_size ≤ length w₁ → r ≡ Ok true
second_side_checked {v} {p} {q} {w} {o = o} {n = n} a {w₁} {r = r} j l =
    let x = sym a.answer in
    let y = taken (equality v p q (length w) (length o)).words o n (comparison_written _ (equality_compared v p q (length w) (length o)) x).0 a.output in
    is_yes_lem r (j.answer ∙ ap (λ (m : List ℕ). model_check v q p m (length w₁)) (sym y) ∙ second_checked v p q (length w) (length o) x (length w₁) l)
