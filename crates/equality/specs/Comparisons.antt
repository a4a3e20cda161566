-- What Equality answers after 21, and what its answers say of interpretations.
use Rattle.std.specs.Prelude.{ℕ, Err, List, Ok, Option, Result, Some, ◌⊎◌, ◌≡◌, length, take}
use Rattle.decision.specs.Decisions.{Countable, StoppedPair}
use Rattle.functional.specs.declared.Functional.{Functional}
use Rattle.meaning.specs.Answers.{Answer, ComparisonResult, VerdictResult, comparison_answer, compliant, differs, equal, outside, refused}
use Rattle.meaning.specs.Answers.{result}
use Rattle.meaning.specs.Containment.{IndistinctTested, Refutes, resolve}
use Rattle.meaning.specs.Model.{facts_of, individual_count}
use Rattle.meaning.specs.Operations.{Outcome, equality, equality_of, output_after, reported, says, work_after}
use Rattle.meaning.specs.Policy.{policy_of}
use Rattle.meaning.specs.Vocabulary.{vocabulary_of}
use Rattle.meaning.specs.declared.Comparison.{Comparison}
use Rattle.meaning.specs.declared.refusals.Refusal.{Refusal}
use Rattle.short_way.specs.Stops.{PreparedPair}
use Rattle.short_way.specs.declared.Stop.{Stop}
use Rattle.splitting.specs.Ends.{Ends}
use Rattle.meaning.specs.declared.Comparison.TheVariants as comparison

-- what a verdict of one direction says there
abbrev pub sided_answer : ℕ → Answer VerdictResult → Answer ComparisonResult
sided_answer side (refused n) = refused n
sided_answer side (result compliant) = result equal
sided_answer side (result (outside s q n)) = result (differs side s q n)

-- the answer is the outcome's, and the output holds the outcome's words
pub record Compares (x : Outcome ComparisonResult) (o o' : List ℕ) (r : Result Comparison Refusal) : Type 0 where
  pub answer : comparison_answer r ≡ x.answer
  pub output : o' ≡ output_after x.words o

-- the first direction's difference before the second's (SPECIFICATION 9.7), with an output of so many words, and after 21
abbrev pub reverse : List ℕ → List ℕ → List ℕ → ℕ → Outcome ComparisonResult
reverse v p q o = reported (vocabulary_of v) o (differs 2) (resolve (vocabulary_of v) (policy_of q) (policy_of p)) (says equal)

abbrev pub difference : List ℕ → List ℕ → List ℕ → ℕ → Outcome ComparisonResult
difference v p q o = reported (vocabulary_of v) o (differs 1) (resolve (vocabulary_of v) (policy_of p) (policy_of q)) (reverse v p q o)

abbrev pub compared : List ℕ → List ℕ → List ℕ → ℕ → Outcome ComparisonResult
compared v p q o = equality_of (vocabulary_of v) (policy_of p) (policy_of q) o

-- the ends of both policies
abbrev pub BothEnds : List ℕ → List ℕ → List ℕ → List ℕ → Type 0
BothEnds p q first second = Ends (policy_of p) first × Ends (policy_of q) second

-- both directions can be decided from the stops on
pub record Comparable (v p q w : List ℕ) (f : Functional) (forth back : Stop) : Type 0 where
  pub first : Countable v p q w f forth.place forth.term
  pub second : Countable v q p w f back.place back.term

-- what both directions tell, by whatever vocabulary
abbrev pub DifferenceBy : List ℕ → List ℕ → List ℕ → Functional → Stop → Stop → List ℕ → List ℕ → Result Comparison Refusal → Type 0
DifferenceBy p q w f forth back o o' r = (v : List ℕ) → Comparable v p q w f forth back → Compares (difference v p q (length o)) o o' r

-- the short way stopped there in either direction, if it did
pub record BothStopped (v p q w : List ℕ) (f : Functional) (forth back : Option Stop) : Type 0 where
  pub first : StoppedPair v p q w f forth
  pub second : StoppedPair v q p w f back

-- what Equality tells after 21, from the stops on, by whatever vocabulary, and from the beginning
abbrev pub ComparedFrom : List ℕ → List ℕ → List ℕ → Functional → Stop → Stop → List ℕ → List ℕ → Result Comparison Refusal → Type 0
ComparedFrom p q w f forth back o o' r = (v : List ℕ) → BothStopped v p q w f (Some forth) (Some back) → Compares (compared v p q (length o)) o o' r

abbrev pub ComparedBy : List ℕ → List ℕ → List ℕ → Functional → List ℕ → List ℕ → Result Comparison Refusal → Type 0
ComparedBy p q w f o o' r = (v : List ℕ) → PreparedPair v p q w f → Compares (compared v p q (length o)) o o' r

-- demand 3, over interpretations given by tests: equal where none tells the policies apart; else the words stand for a finite
-- interpretation with individual 1 in the side's policy and outside the other
abbrev pub Differing : List ℕ → List ℕ → List ℕ → List ℕ → ℕ → Type 0
Differing v p q m side =
    ((side ≡ 1) × Refutes (vocabulary_of v) (policy_of p) (policy_of q) (individual_count m) (facts_of m))
    ⊎ ((side ≡ 2) × Refutes (vocabulary_of v) (policy_of q) (policy_of p) (individual_count m) (facts_of m))

abbrev pub ComparisonTested : List ℕ → List ℕ → List ℕ → List ℕ → Result Comparison Refusal → Type 0
ComparisonTested v p q o (Ok comparison.Equal) = IndistinctTested (vocabulary_of v) (policy_of p) (policy_of q)
ComparisonTested v p q o (Ok (comparison.Differs side s c n)) =
    Differing v p q (take n o) side × (IndistinctTested (vocabulary_of v) (policy_of p) (policy_of q) → ⊥)
ComparisonTested v p q o (Err e) = Unit {0}

-- what Equality leaves behind
pub record EqualityPost (v p q w w' o o' : List ℕ) (r : Result Comparison Refusal) : Type 0 where
  pub answer : comparison_answer r ≡ (equality v p q (length w) (length o)).answer
  pub output : o' ≡ output_after (equality v p q (length w) (length o)).words o
  pub work : w' ≡ work_after (comparison_answer r) w
  pub right : ComparisonTested v p q o' r
