-- Demand 3 for the definition of Equality, from words to answers.
use Prim.Native.Nat.{ℕ}
use mathlib.Core.Bool.{◌||◌}
use mathlib.Core.List.{List}
use mathlib.Core.Logic.{◌↔◌}
use mathlib.Core.Path.{◌≡◌, refl}
use native.Mathlib.Omega.{arith}
use Rattle.meaning.specs.Answers.{ComparisonResult, compliant, differs, equal, result}
use Rattle.meaning.specs.Containment.{Contained, ContainedFinite, Indistinct, IndistinctTested, crowded}
use Rattle.meaning.specs.Operations.{Outcome, compliance, equality, equality_of, input_refusal, refuses, says, work_refusal}
use Rattle.meaning.specs.Policy.{Policy, policy_of}
use Rattle.meaning.specs.Promises.{CorrectComparison, IsRefusal, same, side1, side2, unsaid_comparison}
use Rattle.meaning.specs.Records.{or_else}
use Rattle.meaning.specs.Vocabulary.{Vocabulary, vocabulary_of}
use Rattle.theory.proofs.Bounds.{bounded, bounded_terms}
use Rattle.theory.proofs.Compliance.{compliant_right, contained_right, no_escape, reported_all}
use Rattle.theory.proofs.Containment.{sound}
use Rattle.theory.proofs.Interpretations.{contained_finite, tested_finite}
use Rattle.theory.proofs.Refusals.{accepted_input, cond_all, or_else_zero, unless_all}

pub both_ways_lem : {K : Vocabulary} {P Q : Policy} → Contained K P Q → Contained K Q P → Indistinct K P Q
both_ways_lem c d I proper s e i = (c I proper s e i, d I proper s e i)

pub one_way : {K : Vocabulary} {P Q : Policy} → Indistinct K P Q → Contained K P Q
one_way h I proper s d i = (h I proper s d i).0

pub other_way : {K : Vocabulary} {P Q : Policy} → Indistinct K P Q → Contained K Q P
other_way h I proper s d i = (h I proper s d i).1

module _ (v p q : List ℕ) where
  abbrev K : Vocabulary
  K = vocabulary_of v

  abbrev P : Policy
  P = policy_of p

  abbrev Q : Policy
  Q = policy_of q

  pub equality_compared : (w o : ℕ) → CorrectComparison (vocabulary_of v) (policy_of p) (policy_of q) o (equality v p q w o)
  unfolding equality equality_of
  equality_compared w o =
      unless_all (CorrectComparison K P Q o) refuses (or_else (input_refusal v p q) (work_refusal w)) _ unsaid_comparison (λ e.
      let a = accepted_input v p q (or_else_zero (input_refusal v p q) (work_refusal w) e).0 in
      let b = bounded v a.vocabulary in
      cond_all (CorrectComparison K P Q o) (crowded K P Q || crowded K Q P) (unsaid_comparison 22)
      (reported_all K b P Q (bounded_terms v p a.first_policy) o (differs 1) _ (CorrectComparison K P Q o) unsaid_comparison (λ c.
      reported_all K b Q P (bounded_terms v q a.second_policy) o (differs 2) (says equal) (CorrectComparison K P Q o) unsaid_comparison
      (λ d. same (both_ways_lem (sound K P Q c) (sound K Q P d))) (λ s k words. side2 s k words (sound K P Q c))) side1))

  -- "equal" exactly when no interpretation, finite or countable, tells the two policies apart
  pub equal_right : (w o : ℕ) → (equality v p q w o).answer ≡ result equal → Indistinct (vocabulary_of v) (policy_of p) (policy_of q)
  equal_right w o e = go (equality v p q w o) (equality_compared w o) e
    where
      go : (r : Outcome ComparisonResult) → CorrectComparison K P Q o r → r.answer ≡ result equal → Indistinct K P Q
      go r (unsaid_comparison n) e = absurd (let z : ◌≡◌ {A = ℕ} 0 1 = cc in omega arith)
      go r (same h) e = h
      go r (side1 s k words h l) e = absurd (let z : ◌≡◌ {A = ℕ} 0 1 = cc in omega arith)
      go r (side2 s k words c h l) e = absurd (let z : ◌≡◌ {A = ℕ} 0 1 = cc in omega arith)

  -- that no finite interpretation tells them apart is enough, and so that none given by tests does, or none at all
  pub finite_equal : (w o : ℕ) → ContainedFinite (vocabulary_of v) (policy_of p) (policy_of q) → ContainedFinite (vocabulary_of v) (policy_of q) (policy_of p) →
      (IsRefusal (equality v p q w o).answer → ⊥) → (equality v p q w o).answer ≡ result equal
  finite_equal w o c d t = go (equality v p q w o) (equality_compared w o) t
    where
      go : (r : Outcome ComparisonResult) → CorrectComparison K P Q o r → (IsRefusal r.answer → ⊥) → r.answer ≡ result equal
      go r (unsaid_comparison n) t = absurd (t (n, refl))
      go r (same h) t = refl
      go r (side1 s k words h l) t = absurd (no_escape c h)
      go r (side2 s k words e h l) t = absurd (no_escape d h)

  pub tested_equal : (w o : ℕ) → IndistinctTested (vocabulary_of v) (policy_of p) (policy_of q) → (IsRefusal (equality v p q w o).answer → ⊥) → (equality v p q w o).answer ≡ result equal
  tested_equal w o i =
      finite_equal w o (tested_finite K P Q (λ M proper s d e. (i M proper s d e).0)) (tested_finite K Q P (λ M proper s d e. (i M proper s d e).1))

  pub indistinct_right : (w o : ℕ) → Indistinct (vocabulary_of v) (policy_of p) (policy_of q) → (IsRefusal (equality v p q w o).answer → ⊥) → (equality v p q w o).answer ≡ result equal
  indistinct_right w o i = finite_equal w o (contained_finite (one_way i)) (contained_finite (other_way i))

-- demand 3: policies found equal get the same verdict with a third policy, on either side, where neither call is refused
module _ (v p q : List ℕ) (w o : ℕ) (e : (equality v p q w o).answer ≡ result equal) (r : List ℕ) (w₁ o₁ w₂ o₂ : ℕ) where
  indistinct : Indistinct (vocabulary_of v) (policy_of p) (policy_of q)
  indistinct = equal_right v p q w o e

  pub same_as_first : (IsRefusal (compliance v p r w₁ o₁).answer → ⊥) → (IsRefusal (compliance v q r w₂ o₂).answer → ⊥) →
      ((compliance v p r w₁ o₁).answer ≡ result compliant) ↔ ((compliance v q r w₂ o₂).answer ≡ result compliant)
  same_as_first a b = (
    λ h. contained_right v q r w₂ o₂ (λ I proper s d i k. compliant_right v p r w₁ o₁ h I proper s d i ((indistinct I proper s d i).1 k)) b,
    λ h. contained_right v p r w₁ o₁ (λ I proper s d i k. compliant_right v q r w₂ o₂ h I proper s d i ((indistinct I proper s d i).0 k)) a,
  )

  pub same_as_second : (IsRefusal (compliance v r p w₁ o₁).answer → ⊥) → (IsRefusal (compliance v r q w₂ o₂).answer → ⊥) →
      ((compliance v r p w₁ o₁).answer ≡ result compliant) ↔ ((compliance v r q w₂ o₂).answer ≡ result compliant)
  same_as_second a b = (
    λ h. contained_right v r q w₂ o₂ (λ I proper s d i k. (indistinct I proper s d i).0 (compliant_right v r p w₁ o₁ h I proper s d i k)) b,
    λ h. contained_right v r p w₁ o₁ (λ I proper s d i k. (indistinct I proper s d i).1 (compliant_right v r q w₂ o₂ h I proper s d i k)) a,
  )
