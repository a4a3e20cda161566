-- The answers as numbers, for a caller in another language: the kind of answer, then its values, 0 where it has none.
use Rattle.std.specs.Prelude.{ℕ, ◌≡◌, List, length}
use Rattle.meaning.specs.Answers.{Answer, CheckResult, ComparisonResult, FillingResult, PossibilityResult, ReadingResult, VerdictResult, accepted}
use Rattle.meaning.specs.Answers.{compliant, differs, equal, first_possible, no, none_possible, outside, refused, result, wrote, yes}
use Rattle.meaning.specs.Operations.{compliance, equality, model_check, output_after, possibility, work_after}
use Rattle.owl.specs.Owl.{read_owl}
use Rattle.rehearsal.specs.Load.{rehearse}
use Rattle.spelling.specs.Operation.{spell}

pub record Code : Type 0 where
  pub kind : ℕ
  pub first : ℕ
  pub second : ℕ
  pub third : ℕ
  pub words : ℕ

abbrev code : ℕ → ℕ → ℕ → ℕ → ℕ → Code
code k a b c n = record { kind = k; first = a; second = b; third = c; words = n }

-- kind 0 is a refusal, its number the first value; an operation's results are kinds 1 and 2
abbrev pub reading_code : Answer ReadingResult → Code
reading_code (refused n) = code 0 n 0 0 0
reading_code (result accepted) = code 1 0 0 0 0

abbrev pub possibility_code : Answer PossibilityResult → Code
possibility_code (refused n) = code 0 n 0 0 0
possibility_code (result (first_possible s)) = code 1 s 0 0 0
possibility_code (result none_possible) = code 2 0 0 0 0

abbrev pub verdict_code : Answer VerdictResult → Code
verdict_code (refused n) = code 0 n 0 0 0
verdict_code (result compliant) = code 1 0 0 0 0
verdict_code (result (outside s q n)) = code 2 s q 0 n

abbrev pub comparison_code : Answer ComparisonResult → Code
comparison_code (refused n) = code 0 n 0 0 0
comparison_code (result equal) = code 1 0 0 0 0
comparison_code (result (differs side s q n)) = code 2 side s q n

abbrev pub check_code : Answer CheckResult → Code
check_code (refused n) = code 0 n 0 0 0
check_code (result yes) = code 1 0 0 0 0
check_code (result no) = code 2 0 0 0 0

abbrev pub filling_code : Answer FillingResult → Code
filling_code (refused n) = code 0 n 0 0 0
filling_code (result (wrote n)) = code 1 0 0 0 n

-- what a function returns and writes for an answer with one value, with one, two or three and a number of words
abbrev pub Coded : Code → ℕ → ℕ → Type 0
Coded c k x = (k ≡ c.kind) × (x ≡ c.first)

abbrev pub CodedFilling : Answer FillingResult → ℕ → ℕ → ℕ → Type 0
CodedFilling a k x n = (k ≡ (filling_code a).kind) × (x ≡ (filling_code a).first) × (n ≡ (filling_code a).words)

abbrev pub CodedVerdict : Answer VerdictResult → ℕ → ℕ → ℕ → ℕ → Type 0
CodedVerdict a k x y n = (k ≡ (verdict_code a).kind) × (x ≡ (verdict_code a).first) × (y ≡ (verdict_code a).second) × (n ≡ (verdict_code a).words)

abbrev pub CodedComparison : Answer ComparisonResult → ℕ → ℕ → ℕ → ℕ → ℕ → Type 0
CodedComparison a k x y z n =
    (k ≡ (comparison_code a).kind) × (x ≡ (comparison_code a).first) × (y ≡ (comparison_code a).second) × (z ≡ (comparison_code a).third) × (n ≡ (comparison_code a).words)

-- what an exported operation leaves behind, whatever its slices held: the definition's answer as numbers, and its slices as the
-- definition has them
pub record PossibleCoded (v p w w' : List ℕ) (k x : ℕ) : Type 0 where
  pub answer : Coded (possibility_code (possibility v p (length w))) k x
  pub work : w' ≡ work_after (possibility v p (length w)) w

pub record ComplianceCoded (v p q w w' o o' : List ℕ) (k x y n : ℕ) : Type 0 where
  pub answer : CodedVerdict (compliance v p q (length w) (length o)).answer k x y n
  pub work : w' ≡ work_after (compliance v p q (length w) (length o)).answer w
  pub output : o' ≡ output_after (compliance v p q (length w) (length o)).words o

pub record EqualityCoded (v p q w w' o o' : List ℕ) (k x y z n : ℕ) : Type 0 where
  pub answer : CodedComparison (equality v p q (length w) (length o)).answer k x y z n
  pub work : w' ≡ work_after (equality v p q (length w) (length o)).answer w
  pub output : o' ≡ output_after (equality v p q (length w) (length o)).words o

pub record ModelCheckCoded (v p q m w w' : List ℕ) (k x : ℕ) : Type 0 where
  pub answer : Coded (check_code (model_check v p q m (length w))) k x
  pub work : w' ≡ work_after (model_check v p q m (length w)) w

pub record OwlCoded (text o o' : List ℕ) (k x n : ℕ) : Type 0 where
  pub answer : CodedFilling (read_owl text (length o)).answer k x n
  pub output : o' ≡ output_after (read_owl text (length o)).words o

pub record SpellCoded (v p w w' o o' : List ℕ) (k x n : ℕ) : Type 0 where
  pub answer : CodedFilling (spell v p (length w) (length o)).answer k x n
  pub work : w' ≡ work_after (spell v p (length w) (length o)).answer w
  pub output : o' ≡ output_after (spell v p (length w) (length o)).words o

pub record RehearseCoded (s N m : ℕ) (o o' : List ℕ) (k x n : ℕ) : Type 0 where
  pub answer : CodedFilling (rehearse s N m (length o)).answer k x n
  pub output : o' ≡ output_after (rehearse s N m (length o)).words o
