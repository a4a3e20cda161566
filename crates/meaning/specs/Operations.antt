-- SPECIFICATION 9: for every contents and length of every slice, the answer of each operation and what the work slice and the output
-- hold afterwards.
use Rattle.std.specs.Prelude.{suc, zero, ℕ, Bool, ◌||◌, cond, false, true, List, [], ◌++◌, ◌∷◌, ◌≡◌, eqb, leb, ltb, drop, length, replicate}
use Rattle.meaning.specs.Answers.{Answer, CheckResult, ComparisonResult, PossibilityResult, ReadingResult, VerdictResult, accepted}
use Rattle.meaning.specs.Answers.{compliant, differs, equal, first_possible, no, none_possible, outside, refused, result, yes}
use Rattle.meaning.specs.Containment.{Decision, contained, crowded, escapes, resolve}
use Rattle.meaning.specs.Countermodel.{countermodel}
use Rattle.meaning.specs.Limits.{work_size}
use Rattle.meaning.specs.Model.{facts_of, model_refusal}
use Rattle.meaning.specs.ModelCheck.{refutes}
use Rattle.meaning.specs.NormalForm.{possible}
use Rattle.meaning.specs.Policy.{Policy, policy_of, policy_refusal, second_refusal}
use Rattle.meaning.specs.Records.{or_else}
use Rattle.meaning.specs.Vocabulary.{Vocabulary, vocabulary_of, vocabulary_refusal}

-- the first refusal, or what comes when there is none
abbrev pub unless : {A : Type 0} → (ℕ → A) → ℕ → A → A
unless refuse zero later = later
unless refuse (suc n) later = refuse (suc n)

-- Read vocabulary, SPECIFICATION 9.2
unfoldable pub read_vocabulary : List ℕ → Answer ReadingResult
read_vocabulary v = unless refused (vocabulary_refusal v) (result accepted)

-- Read policy and Read second policy, SPECIFICATION 9.3 and 9.4: the vocabulary first
unfoldable pub read_policy : List ℕ → List ℕ → Answer ReadingResult
read_policy v p = unless refused (or_else (vocabulary_refusal v) (policy_refusal v p)) (result accepted)

unfoldable pub read_second_policy : List ℕ → List ℕ → Answer ReadingResult
read_second_policy v q = unless refused (or_else (vocabulary_refusal v) (second_refusal (policy_refusal v q))) (result accepted)

-- the first refusal of the vocabulary, the first policy and the second
unfoldable pub input_refusal : List ℕ → List ℕ → List ℕ → ℕ
input_refusal v p q = or_else (vocabulary_refusal v) (or_else (policy_refusal v p) (second_refusal (policy_refusal v q)))

-- the vocabulary and both policies are accepted
pub record AcceptedInput (v p q : List ℕ) : Type 0 where
  pub vocabulary : vocabulary_refusal v ≡ 0
  pub first_policy : policy_refusal v p ≡ 0
  pub second_policy : policy_refusal v q ≡ 0

-- 21: a work slice of w words is not full
abbrev pub work_refusal : ℕ → ℕ
work_refusal w = cond (ltb w work_size) 21 0

-- the first possible term, counted from s
abbrev pub possible_from : Vocabulary → ℕ → Policy → PossibilityResult
possible_from K s [] = none_possible
possible_from K s (p ∷ P) = let rest = possible_from K (suc s) P in cond (possible K p) (first_possible s) rest

-- Possible, SPECIFICATION 9.5: w is the length of the work slice
unfoldable pub possibility : List ℕ → List ℕ → ℕ → Answer PossibilityResult
possibility v p w =
    let told = result (possible_from (vocabulary_of v) 1 (policy_of p)) in
    unless refused (or_else (vocabulary_refusal v) (or_else (policy_refusal v p) (work_refusal w))) told

-- an answer, with the words that are written to the output
pub record Outcome (A : Type 0) : Type 0 where
  pub answer : Answer A
  pub words : List ℕ

abbrev pub says : {A : Type 0} → A → Outcome A
says a = record { answer = result a; words = [] }

abbrev pub refuses : {A : Type 0} → ℕ → Outcome A
refuses n = record { answer = refused n; words = [] }

-- words are written where an output of o words is long enough for them, SPECIFICATION 9.9; else 23
abbrev pub written : {A : Type 0} → ℕ → (ℕ → A) → List ℕ → Outcome A
written o tell words = cond (leb (length words) o) (record { answer = result (tell (length words)); words = words }) (refuses 23)

-- what a decision reports: term s and combination q with the words written, or what comes when there is none
abbrev pub reported : {A : Type 0} → Vocabulary → ℕ → (ℕ → ℕ → ℕ → A) → Decision → Outcome A → Outcome A
reported K o tell contained rest = rest
reported K o tell (escapes s q u) rest = written o (tell s q) (countermodel K u)

-- Compliance after 21, o the length of the output: 22, then the verdict, with 23 where there is a countermodel to report
unfoldable pub compliance_of : Vocabulary → Policy → Policy → ℕ → Outcome VerdictResult
compliance_of K P Q o =
    let told = reported K o outside (resolve K P Q) (says compliant) in
    cond (crowded K P Q) (refuses 22) told

-- Compliance, SPECIFICATION 9.6
unfoldable pub compliance : List ℕ → List ℕ → List ℕ → ℕ → ℕ → Outcome VerdictResult
compliance v p q w o =
    let told = compliance_of (vocabulary_of v) (policy_of p) (policy_of q) o in
    unless refuses (or_else (input_refusal v p q) (work_refusal w)) told

-- Equality after 21: 22 in both directions, then the first direction's difference, side 1, before the second's, side 2
unfoldable pub equality_of : Vocabulary → Policy → Policy → ℕ → Outcome ComparisonResult
equality_of K P Q o =
    let reverse = reported K o (differs 2) (resolve K Q P) (says equal) in
    let told = reported K o (differs 1) (resolve K P Q) reverse in
    cond (crowded K P Q || crowded K Q P) (refuses 22) told

-- Equality, SPECIFICATION 9.7: the refusals in Compliance's order
unfoldable pub equality : List ℕ → List ℕ → List ℕ → ℕ → ℕ → Outcome ComparisonResult
equality v p q w o =
    let told = equality_of (vocabulary_of v) (policy_of p) (policy_of q) o in
    unless refuses (or_else (input_refusal v p q) (work_refusal w)) told

-- Model check, SPECIFICATION 9.8: 21 comes last
unfoldable pub model_check : List ℕ → List ℕ → List ℕ → List ℕ → ℕ → Answer CheckResult
model_check v p q m w =
    let told = cond (refutes (facts_of m) (vocabulary_of v) (policy_of p) (policy_of q)) (result yes) (result no) in
    unless refused (or_else (input_refusal v p q) (or_else (model_refusal v m) (work_refusal w))) told

-- the first n words are 0, later ones as they were
unfoldable pub zeroed : ℕ → List ℕ → List ℕ
zeroed n w = replicate n 0 ++ drop n w

-- SPECIFICATION 9.9: 22, 43 and 23 are the refusals that come after 21, and so after work was done; the others are early
abbrev pub is_late : ℕ → Bool
is_late n = eqb n 22 || (eqb n 43 || eqb n 23)

abbrev pub Early : ℕ → Type 0
Early n = is_late n ≡ false

abbrev pub comes_late : {A : Type 0} → Answer A → Bool
comes_late (refused n) = is_late n
comes_late (result a) = true

-- SPECIFICATION 9.9, the work slice: as it was after an early refusal; after a late one and after a result the first 16,384 words
-- are 0
unfoldable pub work_after : {A : Type 0} → Answer A → List ℕ → List ℕ
work_after a w = cond (comes_late a) (zeroed work_size w) w

-- SPECIFICATION 9.9, the output: the words written, and what follows them as it was
unfoldable pub output_after : List ℕ → List ℕ → List ℕ
output_after words o = words ++ drop (length words) o
