-- What Possible and Compliance answer after 21, and what Compliance's answers say of interpretations.
use Rattle.std.specs.Prelude.{ℕ, Err, List, Ok, Option, Result, ◌≡◌, length, take}
use Rattle.decision.specs.Decisions.{Delivers, settled}
use Rattle.functional.specs.declared.Functional.{Functional}
use Rattle.meaning.specs.Answers.{possibility_answer, possibility_of, verdict_answer}
use Rattle.meaning.specs.Containment.{ContainedTested, Refutes}
use Rattle.meaning.specs.Model.{facts_of, individual_count}
use Rattle.meaning.specs.Operations.{compliance, output_after, possibility, possible_from, work_after}
use Rattle.meaning.specs.Policy.{policy_of}
use Rattle.meaning.specs.Vocabulary.{vocabulary_of}
use Rattle.meaning.specs.declared.Verdict.{Verdict}
use Rattle.meaning.specs.declared.refusals.Refusal.{Refusal}
use Rattle.preparation.specs.Prepared.{Accepting}
use Rattle.short_way.specs.Stops.{PreparedPair}
use Rattle.meaning.specs.declared.Verdict.TheVariants as verdict

-- ---- Possible

-- the answer is Possible's, by whatever vocabulary is prepared and accepts the policy
abbrev pub PossibleBy : List ℕ → List ℕ → Functional → Option ℕ → Type 0
PossibleBy p w f r = (v : List ℕ) → Accepting v p w f → possibility_of r ≡ possible_from (vocabulary_of v) 1 (policy_of p)

-- what Possible leaves behind, whatever its three slices held: the definition's answer, and the work slice as the answer has it
pub record PossiblePost (v p w w' : List ℕ) (r : Result (Option ℕ) Refusal) : Type 0 where
  pub answer : possibility_answer r ≡ possibility v p (length w)
  pub work : w' ≡ work_after (possibility_answer r) w

-- ---- Compliance

-- Compliance's outcome after 21 is delivered, by whatever vocabulary is prepared
abbrev pub SettledBy : List ℕ → List ℕ → List ℕ → Functional → List ℕ → List ℕ → Result Verdict Refusal → Type 0
SettledBy p q w f o o' r = (v : List ℕ) → PreparedPair v p q w f → Delivers (settled v p q (length o)) o o' r

-- demand 2, over interpretations given by tests: compliant where each individual of the policy is in the consent; else the words
-- stand for a finite interpretation with individual 1 in the policy and outside the consent
abbrev pub VerdictTested : List ℕ → List ℕ → List ℕ → List ℕ → Result Verdict Refusal → Type 0
VerdictTested v p q o (Ok verdict.Compliant) = ContainedTested (vocabulary_of v) (policy_of p) (policy_of q)
VerdictTested v p q o (Ok (verdict.Outside s c n)) =
    Refutes (vocabulary_of v) (policy_of p) (policy_of q) (individual_count (take n o)) (facts_of (take n o))
    × (ContainedTested (vocabulary_of v) (policy_of p) (policy_of q) → ⊥)
VerdictTested v p q o (Err e) = Unit {0}

-- what Compliance leaves behind, whatever its five slices held: the definition's answer, its words in the output and nothing else, the
-- work slice as the answer has it; and the answer is right
pub record CompliancePost (v p q w w' o o' : List ℕ) (r : Result Verdict Refusal) : Type 0 where
  pub answer : verdict_answer r ≡ (compliance v p q (length w) (length o)).answer
  pub output : o' ≡ output_after (compliance v p q (length w) (length o)).words o
  pub work : w' ≡ work_after (verdict_answer r) w
  pub right : VerdictTested v p q o' r
