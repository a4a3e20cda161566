-- Demand 1: an operation ends with a result, or with the first refusal in its order (SPECIFICATION 9.2 to 9.8).
use mathlib.Core.Bool.{Bool, cond}
use Rattle.meaning.specs.declared.refusals.Refusal.{Refusal}
use Rattle.std.specs.Prelude.{Err, Ok, Option, Result}
use Prim.Native.Nat.{ℕ}
use mathlib.Core.List.{List}
use mathlib.Core.Logic.{◌↔◌}
use mathlib.Core.Path.{◌∙◌, ◌≡◌, ap, refl, sym}
use lib.ListN.{length}
use native.Mathlib.Omega.{arith}
use Rattle.containment.specs.Verdicts.{CompliancePost, PossiblePost}
use Rattle.demands.proofs.Orders.{compliance_follows, equality_follows, model_check_follows, policy_follows}
use Rattle.demands.proofs.Orders.{possible_follows, refused_iff, second_policy_follows, vocabulary_follows}
use Rattle.demands.specs.Refusals.{FirstRefusal, compliance_order, equality_order, model_check_order, policy_order, possible_order, RefusedWith}
use Rattle.demands.specs.Refusals.{second_policy_order, vocabulary_order}
use Rattle.equality.specs.Comparisons.{EqualityPost}
use Rattle.meaning.specs.Answers.{reading_answer, refused, verdict_of, comparison_of, possibility_of, yes, no, accepted, answered}
use Rattle.meaning.specs.Operations.{read_policy, read_second_policy, read_vocabulary}
use Rattle.meaning.specs.declared.Comparison.{Comparison}
use Rattle.meaning.specs.declared.Verdict.{Verdict}
use Rattle.model_check.specs.Judging.{ModelCheckPost}

-- a refusal's answer is its number, whatever the operation's results are
pub refused_answer : {A B : Type 0} (value : A → B) (r : Result A Refusal) {n : ℕ} → RefusedWith r n → answered value r ≡ refused n
refused_answer value r h = ap (answered value) h.given ∙ ap refused h.number

pub answer_refused : {A B : Type 0} (value : A → B) (r : Result A Refusal) {n : ℕ} → answered value r ≡ refused n → RefusedWith r n
answer_refused value (Ok a) e = absurd (let z : ◌≡◌ {A = ℕ} 0 1 = cc in omega arith)
answer_refused value (Err x) e = record { refusal = x; given = refl; number = cc }

-- an operation refuses n exactly when n is the first refusal in its order
pub read_vocabulary_refused_iff : (v : List ℕ) {r : Result Unit Refusal} → reading_answer r ≡ read_vocabulary v → {n : ℕ} → (RefusedWith r n) ↔ FirstRefusal n (vocabulary_order v)
read_vocabulary_refused_iff v {r} a =
    let h = refused_iff (vocabulary_follows v) in
    (λ e. h.0 (sym a ∙ refused_answer (λ u. accepted) r e), λ f. answer_refused (λ u. accepted) r (a ∙ h.1 f))

pub read_policy_refused_iff : (v p : List ℕ) {r : Result Unit Refusal} → reading_answer r ≡ read_policy v p → {n : ℕ} → (RefusedWith r n) ↔ FirstRefusal n (policy_order v p)
read_policy_refused_iff v p {r} a =
    let h = refused_iff (policy_follows v p) in
    (λ e. h.0 (sym a ∙ refused_answer (λ u. accepted) r e), λ f. answer_refused (λ u. accepted) r (a ∙ h.1 f))

pub read_second_policy_refused_iff : (v q : List ℕ) {r : Result Unit Refusal} → reading_answer r ≡ read_second_policy v q → {n : ℕ} → (RefusedWith r n) ↔ FirstRefusal n (second_policy_order v q)
read_second_policy_refused_iff v q {r} a =
    let h = refused_iff (second_policy_follows v q) in
    (λ e. h.0 (sym a ∙ refused_answer (λ u. accepted) r e), λ f. answer_refused (λ u. accepted) r (a ∙ h.1 f))

pub possible_refused_iff : {v p w w' : List ℕ} {r : Result (Option ℕ) Refusal} → PossiblePost v p w w' r → {n : ℕ} → (RefusedWith r n) ↔ FirstRefusal n (possible_order v p (length w))
possible_refused_iff {v} {p} {w} {r = r} c =
    let h = refused_iff (possible_follows v p (length w)) in
    (λ e. h.0 (sym c.answer ∙ refused_answer possibility_of r e), λ f. answer_refused possibility_of r (c.answer ∙ h.1 f))

pub compliance_refused_iff : {v p q w w' o o' : List ℕ} {r : Result Verdict Refusal} → CompliancePost v p q w w' o o' r → {n : ℕ} →
    (RefusedWith r n) ↔ FirstRefusal n (compliance_order v p q (length w) (length o))
compliance_refused_iff {v} {p} {q} {w} {o = o} {r = r} c =
    let h = refused_iff (compliance_follows v p q (length w) (length o)) in
    (λ e. h.0 (sym c.answer ∙ refused_answer verdict_of r e), λ f. answer_refused verdict_of r (c.answer ∙ h.1 f))

pub equality_refused_iff : {v p q w w' o o' : List ℕ} {r : Result Comparison Refusal} → EqualityPost v p q w w' o o' r → {n : ℕ} →
    (RefusedWith r n) ↔ FirstRefusal n (equality_order v p q (length w) (length o))
equality_refused_iff {v} {p} {q} {w} {o = o} {r = r} c =
    let h = refused_iff (equality_follows v p q (length w) (length o)) in
    (λ e. h.0 (sym c.answer ∙ refused_answer comparison_of r e), λ f. answer_refused comparison_of r (c.answer ∙ h.1 f))

pub model_check_refused_iff : {v p q m w w' : List ℕ} {r : Result Bool Refusal} → ModelCheckPost v p q m w w' r → {n : ℕ} → (RefusedWith r n) ↔ FirstRefusal n (model_check_order v p q m (length w))
model_check_refused_iff {v} {p} {q} {m} {w} {r = r} c =
    let h = refused_iff (model_check_follows v p q m (length w)) in
    (λ e. h.0 (sym c.answer ∙ refused_answer (λ (b : Bool). cond b yes no) r e), λ f. answer_refused (λ (b : Bool). cond b yes no) r (c.answer ∙ h.1 f))
