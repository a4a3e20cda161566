-- What Compliance and Equality write as a countermodel the model check accepts, and answers yes.
use Prim.Native.Nat.{◌<◌, ◌≤◌, ℕ}
use mathlib.Core.Bool.{false}
use mathlib.Core.List.{List}
use mathlib.Core.Logic.{◌⊎◌, inl, inr, ⊎_elim}
use mathlib.Core.Path.{◌≡◌, refl, subst, sym}
use lib.Dec.{ltb}
use lib.ListN.{length}
use native.Mathlib.Nat.{mul-le-mul}
use native.Mathlib.Omega.{arith}
use borrow.Author.Tests.{le-ltb}
use Rattle.meaning.specs.Accepted.{count}
use Rattle.meaning.specs.Answers.{Answer, CheckResult, ComparisonResult, VerdictResult, differs, outside, result, yes}
use Rattle.meaning.specs.Countermodel.{canonical_model, countermodel, individuals}
use Rattle.meaning.specs.Limits.{most_facts, most_individuals, most_records, work_size}
use Rattle.meaning.specs.Lists.{◌∈◌, here}
use Rattle.meaning.specs.Model.{facts_of, model_refusal}
use Rattle.meaning.specs.ModelCheck.{refutes}
use Rattle.meaning.specs.NormalForm.{Form, normal_form}
use Rattle.meaning.specs.Operations.{AcceptedInput, Outcome, compliance, equality, input_refusal, model_check, refuses, unless}
use Rattle.meaning.specs.Operations.{work_refusal}
use Rattle.meaning.specs.Policy.{Chain, Policy, policy_of, policy_refusal}
use Rattle.meaning.specs.Promises.{CorrectComparison, CorrectVerdict, Escape, IsRefusal, agreed, escaped, same, side1, side2}
use Rattle.meaning.specs.Promises.{unsaid_comparison, unsaid_verdict}
use Rattle.meaning.specs.Records.{or_else}
use Rattle.meaning.specs.Vocabulary.{Vocabulary, class_count, feature_count, role_count, vocabulary_of, vocabulary_refusal}
use Rattle.theory.proofs.Bounds.{bounded, bounded_terms}
use Rattle.theory.proofs.Checking.{check_right}
use Rattle.theory.proofs.Compliance.{compliance_told}
use Rattle.theory.proofs.Containment.{witness}
use Rattle.theory.proofs.Equality.{equality_compared}
use Rattle.theory.proofs.ModelWords.{model_accepted}
use Rattle.theory.proofs.Picks.{PickedForm}
use Rattle.theory.proofs.Refusals.{accepted_input, cond_all, or_else_zero, unless_all}
use Rattle.theory.proofs.Rules.{all_at, any_right}
use Rattle.theory.proofs.Sizes.{form_picked, length-canonical_model-≤, model_named, named_picked, normal_named, normal_weight, size_weight}
use Rattle.theory.proofs.Terms.{count-<}
use Rattle.theory.proofs.Wellformed.{accepted, accepted_counts}

-- ---- the words of an escape from an accepted policy

module _ (v p : List ℕ) (e : vocabulary_refusal v ≡ 0) (h : policy_refusal v p ≡ 0) where
  -- a combination of a term has at most 512 individuals and 256 * 512 + 511 facts
  combination_accepted : {Q : Policy} (c : Chain) → c ∈ policy_of p → (u : Form) → PickedForm Q (normal_form (vocabulary_of v) c) u →
      model_refusal v (countermodel (vocabulary_of v) u) ≡ 0
  unfolding countermodel vocabulary_of
  combination_accepted c m u k =
      let K = vocabulary_of v in
      let a = accepted v p h in
      let l : count c < most_records = all_at (count-< (policy_of p) most_records (omega arith)) m in
      let b = accepted_counts v e in
      let small : individuals u ≤ most_individuals = omega (arith, size_weight u.successors, form_picked k, normal_weight K c) in
      let few : length (canonical_model K u) ≤ most_facts = omega (arith, length-canonical_model-≤ K u, mul-le-mul b.0.1 small, form_picked k, normal_weight K c) in
      model_accepted v (individuals u) (canonical_model K u) (omega arith) small few
      (model_named (role_count v) (feature_count v) K u (named_picked (role_count v) (feature_count v) k (normal_named (role_count v) (feature_count v) (class_count v) K c (all_at a.named m))))

  escape_accepted : {Q : Policy} {s q : ℕ} {words : List ℕ} → Escape (vocabulary_of v) (policy_of p) Q s q words → model_refusal v words ≡ 0
  escape_accepted {Q} x =
      let f = x.first in
      let u = x.combination in
      let m = subst (λ (l : Policy). f.term ∈ l) (sym f.split) (any_right f.before (here refl)) in
      let k = subst (λ (l : List Form). u ∈ l) (sym f.combination.split) (any_right f.combination.before (here refl)) in
      let w = witness (vocabulary_of v) (bounded v e) Q f.term (all_at (bounded_terms v p h) m) f.is_possible u k in
      subst (λ (l : List ℕ). model_refusal v l ≡ 0) (sym x.written) (combination_accepted f.term m u w.picked)

-- ---- what the check answers

-- where nothing is refused, it answers
check_answers : (v p q m : List ℕ) (w : ℕ) → AcceptedInput v p q → model_refusal v m ≡ 0 → work_size ≤ w → IsRefusal (model_check v p q m w) → ⊥
unfolding model_check input_refusal
check_answers v p q m w a k l =
    let full : ltb w work_size ≡ false = le-ltb w work_size l in
    rw (a.vocabulary, a.first_policy, a.second_policy, k, full)
    (cond_all (λ (r : Answer CheckResult). IsRefusal r → ⊥) (refutes (facts_of m) (vocabulary_of v) (policy_of p) (policy_of q))
    (λ z. let y : ◌≡◌ {A = ℕ} 0 1 = cc z.1 in omega arith) (λ z. let y : ◌≡◌ {A = ℕ} 0 1 = cc z.1 in omega arith))

-- the model check accepts the words, and answers yes of these policies
pub record Upheld (v p q words : List ℕ) : Type 0 where
  pub accepts : model_refusal v words ≡ 0
  pub checks : (w : ℕ) → work_size ≤ w → model_check v p q words w ≡ result yes

pub upheld : {v p q : List ℕ} → AcceptedInput v p q → {s c : ℕ} {words : List ℕ} →
    Escape (vocabulary_of v) (policy_of p) (policy_of q) s c words → Upheld v p q words
upheld {v} {p} {q} a {words = words} x =
    let r = x.refutes in
    let k = escape_accepted v p a.vocabulary a.first_policy x in
    record { accepts = k; checks = λ w l. (check_right v p q words w (check_answers v p q words w a k l)).1 (r.satisfies, r.within, r.without) }

-- ---- the operations

-- what is answered, and not refused, has accepted inputs
answered_input : {A : Type 0} (v p q : List ℕ) (w : ℕ) (later : Outcome A) → (IsRefusal (unless refuses (or_else (input_refusal v p q) (work_refusal w)) later).answer → ⊥) → AcceptedInput v p q
answered_input {A} v p q w later =
    unless_all (λ (r : Outcome A). (IsRefusal r.answer → ⊥) → AcceptedInput v p q) refuses (or_else (input_refusal v p q) (work_refusal w)) later
    (λ k t. absurd (t (k, refl))) (λ e t. accepted_input v p q (or_else_zero (input_refusal v p q) (work_refusal w) e).0)

module _ (v p q : List ℕ) (w o : ℕ) where
  abbrev K : Vocabulary
  K = vocabulary_of v

  pub compliance_input : (IsRefusal (compliance v p q w o).answer → ⊥) → AcceptedInput v p q
  unfolding compliance
  compliance_input t = answered_input v p q w _ t

  pub equality_input : (IsRefusal (equality v p q w o).answer → ⊥) → AcceptedInput v p q
  unfolding equality
  equality_input t = answered_input v p q w _ t

  written_upheld : {s c n : ℕ} → (compliance v p q w o).answer ≡ result (outside s c n) → Upheld v p q (compliance v p q w o).words
  written_upheld {s} {c} {n} e =
      go (compliance v p q w o) (compliance_told v p q w o) e (compliance_input (λ r. let z : ◌≡◌ {A = ℕ} 0 1 = cc r.1 in omega arith))
    where
      go : (r : Outcome VerdictResult) → CorrectVerdict K (policy_of p) (policy_of q) o r → r.answer ≡ result (outside s c n) → AcceptedInput v p q → Upheld v p q r.words
      go r (unsaid_verdict k) e a = absurd (let z : ◌≡◌ {A = ℕ} 0 1 = cc in omega arith)
      go r (agreed h) e a = absurd (let z : ◌≡◌ {A = ℕ} 0 1 = cc in omega arith)
      go r (escaped i j words h l) e a = upheld a h

  -- a countermodel that Compliance writes is accepted by the model check
  pub written_accepted : {s c n : ℕ} → (compliance v p q w o).answer ≡ result (outside s c n) → model_refusal v (compliance v p q w o).words ≡ 0
  written_accepted e = (written_upheld e).accepts

  -- which answers yes
  pub written_checked : {s c n : ℕ} → (compliance v p q w o).answer ≡ result (outside s c n) →
      (w₁ : ℕ) → work_size ≤ w₁ → model_check v p q (compliance v p q w o).words w₁ ≡ result yes
  written_checked e = (written_upheld e).checks

  difference_upheld : {side s c n : ℕ} → (equality v p q w o).answer ≡ result (differs side s c n) →
      ((side ≡ 1) × Upheld v p q (equality v p q w o).words) ⊎ ((side ≡ 2) × Upheld v q p (equality v p q w o).words)
  difference_upheld {side} {s} {c} {n} e =
      go (equality v p q w o) (equality_compared v p q w o) e (equality_input (λ r. let z : ◌≡◌ {A = ℕ} 0 1 = cc r.1 in omega arith))
    where
      go : (r : Outcome ComparisonResult) → CorrectComparison K (policy_of p) (policy_of q) o r → r.answer ≡ result (differs side s c n) → AcceptedInput v p q →
          ((side ≡ 1) × Upheld v p q r.words) ⊎ ((side ≡ 2) × Upheld v q p r.words)
      go r (unsaid_comparison k) e a = absurd (let z : ◌≡◌ {A = ℕ} 0 1 = cc in omega arith)
      go r (same h) e a = absurd (let z : ◌≡◌ {A = ℕ} 0 1 = cc in omega arith)
      go r (side1 i j words h l) e a = inl ((cc), upheld a h)
      go r (side2 i j words d h l) e a = inr ((cc), upheld (record { vocabulary = a.vocabulary; first_policy = a.second_policy; second_policy = a.first_policy }) h)

  -- a countermodel that Equality writes is accepted by the model check
  pub difference_accepted : {side s c n : ℕ} → (equality v p q w o).answer ≡ result (differs side s c n) → model_refusal v (equality v p q w o).words ≡ 0
  difference_accepted e = ⊎_elim (λ h. h.1.accepts) (λ h. h.1.accepts) (difference_upheld e)

  -- which answers yes, of side 1 with the policies in this order, of side 2 in the other
  pub first_checked : {s c n : ℕ} → (equality v p q w o).answer ≡ result (differs 1 s c n) →
      (w₁ : ℕ) → work_size ≤ w₁ → model_check v p q (equality v p q w o).words w₁ ≡ result yes
  first_checked e = ⊎_elim (λ h. h.1.checks) (λ h. absurd (let z = h.0 in omega arith)) (difference_upheld e)

  pub second_checked : {s c n : ℕ} → (equality v p q w o).answer ≡ result (differs 2 s c n) →
      (w₁ : ℕ) → work_size ≤ w₁ → model_check v q p (equality v p q w o).words w₁ ≡ result yes
  second_checked e = ⊎_elim (λ h. absurd (let z = h.0 in omega arith)) (λ h. h.1.checks) (difference_upheld e)
