-- Policies that an interpretation tells apart, and what Compliance and Equality answer of them.
use Prim.Native.Nat.{◌≤◌, ℕ}
use mathlib.Core.Bool.{false}
use mathlib.Core.List.{List}
use mathlib.Core.Logic.{◌↔◌, inl, inr, ⊎_elim}
use mathlib.Core.Path.{◌∙◌, ◌≡◌, refl}
use native.Mathlib.Omega.{arith}
use borrow.Author.Tests.{le-ltb}
use Rattle.meaning.specs.Answers.{VerdictResult, compliant, equal, result}
use Rattle.meaning.specs.Containment.{Apart, Contained, Decision, Indistinct, Refutes, ToldApart, contained, crowded, decide, resolve}
use Rattle.meaning.specs.Limits.{work_size}
use Rattle.meaning.specs.Lists.{All}
use Rattle.meaning.specs.Model.{Fact, stands}
use Rattle.meaning.specs.Normal.{Bounded}
use Rattle.meaning.specs.Operations.{Outcome, compliance, compliance_of, equality, equality_of, input_refusal}
use Rattle.meaning.specs.Policy.{Policy, policy_of}
use Rattle.meaning.specs.Promises.{Complies, CorrectVerdict, IsRefusal, agreed, escaped, unsaid_verdict}
use Rattle.meaning.specs.Vocabulary.{Vocabulary, vocabulary_of}
use Rattle.theory.proofs.Bounds.{bounded, bounded_terms}
use Rattle.theory.proofs.Compliance.{compliance_told, compliant_right, escape}
use Rattle.theory.proofs.Containment.{Decided, all_comply, decided, some_fails, sound}
use Rattle.theory.proofs.Equality.{both_ways_lem, equal_right, one_way, other_way}
use Rattle.theory.proofs.Normal.{BoundedChain}
use Rattle.theory.proofs.Refusals.{accepted_input}
use Rattle.theory.proofs.ShortWay.{resolve_decide}

-- ---- the definitions

-- where the first policy is contained in the second, no interpretation has an individual in the first and outside the second
pub contained_not_apart : {K : Vocabulary} {P Q : Policy} → Contained K P Q → Apart K P Q → ⊥
contained_not_apart c x = x.without (c x.interpretation x.proper x.satisfies x.witness x.there x.within)

-- where the two policies have the same individuals in every interpretation, none tells them apart
pub indistinct_not_told_apart : {K : Vocabulary} {P Q : Policy} → Indistinct K P Q → ToldApart K P Q → ⊥
indistinct_not_told_apart h = ⊎_elim (λ x. contained_not_apart (one_way h) x) (λ x. contained_not_apart (other_way h) x)

-- a finite interpretation that refutes the containment has an individual in the first policy and outside the second
pub refutes_apart : {K : Vocabulary} {P Q : Policy} {n : ℕ} {F : List Fact} → Refutes K P Q n F → Apart K P Q
refutes_apart {n = n} {F = F} r = record {
  interpretation = stands n F;
  proper = r.proper;
  satisfies = r.satisfies;
  witness = 1;
  there = let i = r.proper.inhabited.1 in (omega arith, omega arith);
  within = r.within;
  without = r.without;
}

-- ---- what is decided

module _ (K : Vocabulary) (w : Bounded K) (P Q : Policy) (f : All (BoundedChain K.classes) P) where
  all_comply_lem : (Apart K P Q → ⊥) → (decide K P Q ≡ contained) × All (Complies K Q) P
  all_comply_lem none = go (decide K P Q) (decided K P Q)
    where
      go : (d : Decision) → Decided K 1 P Q d → (d ≡ contained) × All (Complies K Q) P
      go d (all_comply h) = (refl, h)
      go d (some_fails h) = absurd (none (refutes_apart (escape K w P Q f h).refutes))

  -- where no interpretation has an individual in the first policy and outside the second, the decision is "contained"
  pub resolve_of_not_apart : (Apart K P Q → ⊥) → resolve K P Q ≡ contained
  resolve_of_not_apart none = resolve_decide K P Q ∙ (all_comply_lem none).0

  pub contained_iff_not_apart : Contained K P Q ↔ (Apart K P Q → ⊥)
  contained_iff_not_apart = (λ c x. contained_not_apart c x, λ none. sound K P Q (all_comply_lem none).1)

pub indistinct_iff_not_told_apart : (K : Vocabulary) → Bounded K → (P Q : Policy) → All (BoundedChain K.classes) P → All (BoundedChain K.classes) Q →
    Indistinct K P Q ↔ (ToldApart K P Q → ⊥)
indistinct_iff_not_told_apart K w P Q f g = (
  λ h x. indistinct_not_told_apart h x,
  λ none. both_ways_lem ((contained_iff_not_apart K w P Q f).1 (λ x. none (inl x))) ((contained_iff_not_apart K w Q P g).1 (λ x. none (inr x))),
)

-- ---- what is answered

module _ (v p q : List ℕ) (w o : ℕ) where
  abbrev K : Vocabulary
  K = vocabulary_of v

  abbrev P : Policy
  P = policy_of p

  abbrev Q : Policy
  Q = policy_of q

  -- where a verdict is given, "compliant" if and only if no interpretation has an individual in the policy and outside the consent
  pub compliant_iff_not_apart : (IsRefusal (compliance v p q w o).answer → ⊥) →
      ((compliance v p q w o).answer ≡ result compliant) ↔ (Apart (vocabulary_of v) (policy_of p) (policy_of q) → ⊥)
  compliant_iff_not_apart t = (λ e x. contained_not_apart (compliant_right v p q w o e) x, λ none. go none (compliance v p q w o) (compliance_told v p q w o) t)
    where
      go : (Apart K P Q → ⊥) → (r : Outcome VerdictResult) → CorrectVerdict K P Q o r → (IsRefusal r.answer → ⊥) → r.answer ≡ result compliant
      go none r (unsaid_verdict n) t = absurd (t (n, refl))
      go none r (agreed c) t = refl
      go none r (escaped s k words h l) t = absurd (none (refutes_apart h.refutes))

  module _ (accepted : input_refusal v p q ≡ 0) (full : work_size ≤ w) (free : crowded (vocabulary_of v) (policy_of p) (policy_of q) ≡ false) where
    -- where 22 is not given, whatever the output's length, "compliant" if and only if no interpretation has an individual in the policy and outside the consent
    pub uncrowded_compliant_iff : ((compliance v p q w o).answer ≡ result compliant) ↔ (Apart (vocabulary_of v) (policy_of p) (policy_of q) → ⊥)
    unfolding compliance compliance_of
    uncrowded_compliant_iff = (
      λ e x. contained_not_apart (compliant_right v p q w o e) x,
      λ none.
          let a = accepted_input v p q accepted in
          let forth = resolve_of_not_apart K (bounded v a.vocabulary) P Q (bounded_terms v p a.first_policy) none in
          rw (accepted, le-ltb w work_size full, free, forth),
    )

    -- where it is given in neither direction, whatever the output's length, "equal" exactly when no interpretation tells the two apart
    pub uncrowded_equal_iff : crowded (vocabulary_of v) (policy_of q) (policy_of p) ≡ false →
        ((equality v p q w o).answer ≡ result equal) ↔ (ToldApart (vocabulary_of v) (policy_of p) (policy_of q) → ⊥)
    unfolding equality equality_of
    uncrowded_equal_iff back-free = (
      λ e x. indistinct_not_told_apart (equal_right v p q w o e) x,
      λ none.
          let a = accepted_input v p q accepted in
          let b = bounded v a.vocabulary in
          let forth = resolve_of_not_apart K b P Q (bounded_terms v p a.first_policy) (λ x. none (inl x)) in
          let back = resolve_of_not_apart K b Q P (bounded_terms v q a.second_policy) (λ x. none (inr x)) in
          rw (accepted, le-ltb w work_size full, free, back-free, forth, back),
    )
