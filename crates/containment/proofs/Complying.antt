-- Laws of Compliance as an operation: what is ready, that all of it comes after 21, and demand 2.
use Prim.Native.Nat.{◌≤◌, ℕ}
use mathlib.Core.Bool.{Bool, cond, false, true}
use mathlib.Core.List.{List}
use mathlib.Core.Path.{◌≡◌, ap, refl, subst₂}
use lib.Dec.{leb}
use lib.ListN.{length}
use native.Mathlib.Omega.{arith}
use Rattle.std.specs.Prelude.{Err, Ok, Result}
use Rattle.containment.specs.Verdicts.{CompliancePost, VerdictTested}
use Rattle.decision.proofs.Policies.{taken}
use Rattle.decision.specs.Decisions.{settled}
use Rattle.frames.proofs.Work.{Done}
use Rattle.frames.specs.Frames.{Only, Span}
use Rattle.functional.specs.declared.Functional.{Functional}
use Rattle.layout.specs.Places.{pairs_end}
use Rattle.meaning.specs.Answers.{VerdictResult, compliant, outside, result, verdict_answer}
use Rattle.meaning.specs.Containment.{Decision, Refutes, contained, crowded, escapes, resolve}
use Rattle.meaning.specs.Countermodel.{countermodel}
use Rattle.meaning.specs.Limits.{work_size}
use Rattle.meaning.specs.Model.{Fact, facts_of, individual_count}
use Rattle.meaning.specs.Operations.{AcceptedInput, Outcome, comes_late, compliance, compliance_of, input_refusal, output_after, refuses}
use Rattle.meaning.specs.Operations.{reported, says}
use Rattle.meaning.specs.Policy.{Policy, policy_of}
use Rattle.meaning.specs.Promises.{CorrectVerdict, agreed, escaped, unsaid_verdict}
use Rattle.meaning.specs.Vocabulary.{Vocabulary, vocabulary_of}
use Rattle.meaning.specs.declared.Verdict.{Verdict}
use Rattle.meaning.specs.declared.refusals.Refusal.{Refusal}
use Rattle.preparation.specs.Prepared.{Prepared}
use Rattle.short_way.specs.Stops.{PreparedPair}
use Rattle.meaning.specs.declared.Verdict.TheVariants as verdict
use Rattle.theory.proofs.Compliance.{compliance_told, no_escape}
use Rattle.theory.proofs.Interpretations.{tested_finite}

-- ---- what is ready

-- after `prepare`
pub pair_ready : {v p q w w' : List ℕ} {f : Functional} → AcceptedInput v p q → work_size ≤ length w → Only (Span 0 pairs_end) w w' → Prepared v w' f → PreparedPair v p q w' f
pair_ready a full o g = record { prepared = g; full = omega arith; first = a.first_policy; second = a.second_policy }

-- ---- all of it comes after 21

module _ (K : Vocabulary) (P Q : Policy) (o : ℕ) where
  pub settled_late : comes_late (compliance_of K P Q o).answer ≡ true
  unfolding compliance_of
  settled_late = go (crowded K P Q) (resolve K P Q)
    where
      fits : (b : Bool) (s q : ℕ) (words : List ℕ) → comes_late (cond b (record { answer = result (outside s q (length words)); words = words }) (refuses 23)).answer ≡ true
      fits true s q words = refl
      fits false s q words = refl

      go : (b : Bool) (d : Decision) → comes_late (cond b (refuses 22) (reported K o outside d (says compliant))).answer ≡ true
      go true d = refl
      go false contained = refl
      go false (escapes s q u) = fits (leb (length (countermodel K u)) o) s q (countermodel K u)

-- ---- demand 2

module _ (v p q o o' : List ℕ) where
  told : (r : Result Verdict Refusal) (x : Outcome VerdictResult) → CorrectVerdict (vocabulary_of v) (policy_of p) (policy_of q) (length o) x → verdict_answer r ≡ x.answer → o' ≡ output_after x.words o →
      VerdictTested v p q o' r
  told (Ok verdict.Compliant) x (agreed c) a d = λ M. c _
  told (Ok verdict.Compliant) x (unsaid_verdict n) a d = absurd (let z : ◌≡◌ {A = ℕ} 0 1 = cc in omega arith)
  told (Ok verdict.Compliant) x (escaped s k words h l) a d = absurd (let z : ◌≡◌ {A = ℕ} 0 1 = cc in omega arith)
  told (Ok (verdict.Outside s c n)) x (agreed m) a d = absurd (let z : ◌≡◌ {A = ℕ} 0 1 = cc in omega arith)
  told (Ok (verdict.Outside s c n)) x (unsaid_verdict m) a d = absurd (let z : ◌≡◌ {A = ℕ} 0 1 = cc in omega arith)
  told (Ok (verdict.Outside s c n)) x (escaped i k words h l) a d =
      let m : n ≡ length words = cc in
      let t = taken words o n m d in
      (subst₂ (λ (j : ℕ) (F : List Fact). Refutes (vocabulary_of v) (policy_of p) (policy_of q) j F) (ap individual_count t) (ap facts_of t) h.refutes, λ y. no_escape (tested_finite (vocabulary_of v) (policy_of p) (policy_of q) y) h)
  told (Err e) x t a d = tt

pub compliance_post : {v p q w w' o o' : List ℕ} {r : Result Verdict Refusal} → Done (input_refusal v p q) (settled v p q (length o)) (verdict_answer r) w w' o o' → CompliancePost v p q w w' o o' r
unfolding compliance
compliance_post {v} {p} {q} {w} {o = o} {o' = o'} {r = r} d = record {
  answer = d.answer;
  output = d.output;
  work = d.work;
  right = told v p q o o' r (compliance v p q (length w) (length o)) (compliance_told v p q (length w) (length o)) d.answer d.output;
}
