-- What Compliance and Equality say by combinations alone: 22 is asked of every possible term, and every one is split.
use Rattle.std.specs.Prelude.{ℕ, ◌||◌, cond, List}
use Rattle.meaning.specs.Answers.{ComparisonResult, VerdictResult, compliant, differs, equal, outside}
use Rattle.meaning.specs.Containment.{decide, too_many}
use Rattle.meaning.specs.Operations.{Outcome, input_refusal, refuses, reported, says, unless, work_refusal}
use Rattle.meaning.specs.Policy.{policy_of}
use Rattle.meaning.specs.Records.{or_else}
use Rattle.meaning.specs.Vocabulary.{vocabulary_of}

-- Compliance: the refusals before 22 in their order, then 22, then what the combinations decide
abbrev pub split_compliance : List ℕ → List ℕ → List ℕ → ℕ → ℕ → Outcome VerdictResult
split_compliance v p q w o =
    let K = vocabulary_of v in
    let P = policy_of p in
    let Q = policy_of q in
    let told = reported K o outside (decide K P Q) (says compliant) in
    unless refuses (or_else (input_refusal v p q) (work_refusal w)) (cond (too_many K P Q) (refuses 22) told)

-- Equality: 22 in both directions, then what the combinations of the first direction decide, then those of the second
abbrev pub split_equality : List ℕ → List ℕ → List ℕ → ℕ → ℕ → Outcome ComparisonResult
split_equality v p q w o =
    let K = vocabulary_of v in
    let P = policy_of p in
    let Q = policy_of q in
    let reverse = reported K o (differs 2) (decide K Q P) (says equal) in
    let told = reported K o (differs 1) (decide K P Q) reverse in
    unless refuses (or_else (input_refusal v p q) (work_refusal w)) (cond (too_many K P Q || too_many K Q P) (refuses 22) told)
