-- SPECIFICATION 9.14: the load that is drawn from a seed, and the operation Rehearse.
use Rattle.meaning.specs.declared.refusals.Refusal.{Refusal}
use Rattle.std.specs.Prelude.{◌%◌, ◌*◌, ◌+◌, ◌-◌, suc, zero, ℕ, Bool, ◌&&◌, cond, List, [], ◌++◌, ◌∷◌, ◌≡◌, length, Result}
use Rattle.meaning.specs.Answers.{FillingResult, filling_answer, wrote}
use Rattle.meaning.specs.Limits.{most_classes}
use Rattle.meaning.specs.Operations.{Outcome, output_after, refuses, unless, written}
use Rattle.meaning.specs.Policy.{Chain, Policy, class, end, interval}
use Rattle.meaning.specs.PolicyWords.{policy_words}
use Rattle.meaning.specs.Program.{next_part, part_at}
use Rattle.meaning.specs.Records.{is_name}
use Rattle.meaning.specs.Vocabulary.{Axiom, Vocabulary, below, functional_feature, vocabulary_words}

-- ---- draws

-- a draw moves s first
unfoldable pub advance : ℕ → ℕ
advance s = 48271 * s % 2147483647

-- s after so many draws
abbrev pub advance_by : ℕ → ℕ → ℕ
advance_by zero s = s
advance_by (suc i) s = advance_by i (advance s)

-- draw(n), the next draw where s is the seed: s is moved, then reduced
abbrev pub draw : ℕ → ℕ → ℕ
draw s n = advance s % n

-- ---- a vocabulary and two policies

-- so many classes from k on, each below one that is drawn from those before it
abbrev pub hierarchy : ℕ → ℕ → ℕ → List Axiom
hierarchy s k zero = []
hierarchy s k (suc n) = below k (1 + draw s (k - 1)) ∷ hierarchy (advance s) (suc k) n

-- N classes, no role, and one feature, which is functional by the last record
unfoldable pub load_vocabulary : ℕ → ℕ → Vocabulary
load_vocabulary s N = record { classes = N; roles = 0; features = 1; axioms = hierarchy s 2 (N - 1) ++ (functional_feature 1 ∷ []) }

-- a class and an interval: three draws
abbrev pub load_term : ℕ → ℕ → Chain
load_term s N =
    let lo = draw (advance_by 1 s) 100 in
    class (1 + draw s N) (interval 1 lo (lo + draw (advance_by 2 s) 100) end)

-- so many terms
abbrev pub load_policy : ℕ → ℕ → ℕ → Policy
load_policy s N zero = []
load_policy s N (suc m) = load_term s N ∷ load_policy (advance_by 3 s) N m

-- the two policies: s runs on through the vocabulary's N - 1 draws and the first policy's 3 m
abbrev pub load_first : ℕ → ℕ → ℕ → Policy
load_first s N m = load_policy (advance_by (N - 1) s) N m

abbrev pub load_second : ℕ → ℕ → ℕ → Policy
load_second s N m = load_policy (advance_by (N - 1 + 3 * m) s) N m

-- ---- the words

-- the three tables
abbrev pub vocabulary_part : ℕ → ℕ → List ℕ
vocabulary_part s N = vocabulary_words (load_vocabulary s N)

abbrev pub first_part : ℕ → ℕ → ℕ → List ℕ
first_part s N m = policy_words (load_first s N m)

abbrev pub second_part : ℕ → ℕ → ℕ → List ℕ
second_part s N m = policy_words (load_second s N m)

-- words behind their count
abbrev pub counted : List ℕ → List ℕ
counted ws = length ws ∷ ws

unfoldable pub load : ℕ → ℕ → ℕ → List ℕ
load s N m = counted (vocabulary_part s N) ++ (counted (first_part s N m) ++ counted (second_part s N m))

-- by the rule for the program's input (SPECIFICATION 10.1) the words are these three parts, and nothing follows them
pub record ThreeParts (ws v p q : List ℕ) : Type 0 where
  pub first : part_at ws 0 ≡ v
  pub second : part_at ws (next_part ws 0) ≡ p
  pub third : part_at ws (next_part ws (next_part ws 0)) ≡ q
  pub all : next_part ws (next_part ws (next_part ws 0)) ≡ length ws

-- ---- the operation

-- seeds, and terms of a policy
abbrev pub most_seed : ℕ
most_seed = 2147483646

abbrev pub most_terms : ℕ
most_terms = 100

-- each is from 1 to its greatest
abbrev pub is_load : ℕ → ℕ → ℕ → Bool
is_load s N m = is_name most_seed s && (is_name most_classes N && is_name most_terms m)

-- 45: a seed, a number of classes or a number of terms out of range
unfoldable pub load_refusal : ℕ → ℕ → ℕ → ℕ
load_refusal s N m = cond (is_load s N m) 0 45

-- Rehearse, SPECIFICATION 9.14: o is the length of the output
unfoldable pub rehearse : ℕ → ℕ → ℕ → ℕ → Outcome FillingResult
rehearse s N m o = let told = written o wrote (load s N m) in unless refuses (load_refusal s N m) told

-- what the operation leaves behind, whatever its output held: the answer is the definition's, and so is the output
pub record RehearsePost (s N m : ℕ) (before after : List ℕ) (r : Result ℕ Refusal) : Type 0 where
  pub answer : filling_answer r ≡ (rehearse s N m (length before)).answer
  pub output : after ≡ output_after (rehearse s N m (length before)).words before
