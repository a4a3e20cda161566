-- SPECIFICATION 9.1, the answers: a refusal, or a result of the operation's own; and the one that each value of a result type stands for.
use Rattle.std.specs.Prelude.{ℕ, Bool, Err, None, Ok, Option, Result, Some, cond}
use Rattle.meaning.specs.Refusals.{refusal_number}
use Rattle.meaning.specs.declared.Comparison.{Comparison}
use Rattle.meaning.specs.declared.Verdict.{Verdict}
use Rattle.meaning.specs.declared.refusals.Refusal.{Refusal}
use Rattle.meaning.specs.declared.Comparison.TheVariants as comparison
use Rattle.meaning.specs.declared.Verdict.TheVariants as verdict

-- a refusal is a number
pub data Answer (A : Type 0) : Type 0 where
  refused : ℕ → Answer A
  result : A → Answer A

-- what stands for an operation's own result, and a refusal by its number
abbrev pub answered : {A B : Type 0} → (A → B) → Result A Refusal → Answer B
answered value (Ok a) = result (value a)
answered value (Err e) = refused (refusal_number e)

-- Read vocabulary, Read policy, Read second policy
pub data ReadingResult : Type 0 where
  accepted : ReadingResult

abbrev pub reading_answer : {U : Type 0} → Result U Refusal → Answer ReadingResult
reading_answer r = answered (λ u. accepted) r

-- Possible: the first possible term, or "impossible"
pub data PossibilityResult : Type 0 where
  first_possible : ℕ → PossibilityResult
  none_possible : PossibilityResult

abbrev pub possibility_of : Option ℕ → PossibilityResult
possibility_of (Some s) = first_possible s
possibility_of None = none_possible

abbrev pub possibility_answer : Result (Option ℕ) Refusal → Answer PossibilityResult
possibility_answer r = answered possibility_of r

-- Compliance: "compliant", or outside, with term s, combination q and how many words were written
pub data VerdictResult : Type 0 where
  compliant : VerdictResult
  outside : ℕ → ℕ → ℕ → VerdictResult

abbrev pub verdict_of : Verdict → VerdictResult
verdict_of verdict.Compliant = compliant
verdict_of (verdict.Outside s q n) = outside s q n

abbrev pub verdict_answer : Result Verdict Refusal → Answer VerdictResult
verdict_answer r = answered verdict_of r

-- Equality: "equal", or different, with a side, its s and q and how many words were written
pub data ComparisonResult : Type 0 where
  equal : ComparisonResult
  differs : ℕ → ℕ → ℕ → ℕ → ComparisonResult

abbrev pub comparison_of : Comparison → ComparisonResult
comparison_of comparison.Equal = equal
comparison_of (comparison.Differs side s q n) = differs side s q n

abbrev pub comparison_answer : Result Comparison Refusal → Answer ComparisonResult
comparison_answer r = answered comparison_of r

-- Model check
pub data CheckResult : Type 0 where
  yes : CheckResult
  no : CheckResult

abbrev pub checked_answer : Result Bool Refusal → Answer CheckResult
checked_answer r = answered (λ b. cond b yes no) r

-- an operation that fills an output: how many words it wrote
pub data FillingResult : Type 0 where
  wrote : ℕ → FillingResult

abbrev pub filling_answer : Result ℕ Refusal → Answer FillingResult
filling_answer r = answered wrote r
