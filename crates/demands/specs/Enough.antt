-- When Compliance and Equality answer: what is within the limits, where 22 is not given, and what is long enough.
use Rattle.meaning.specs.declared.refusals.Refusal.{Refusal}
use Rattle.std.specs.Prelude.{◌≤◌, ℕ, false, List, ◌≡◌, length, Result}
use Rattle.meaning.specs.Answers.{comparison_answer, verdict_answer}
use Rattle.meaning.specs.Containment.{Decision, contained, crowded, escapes, resolve, too_many}
use Rattle.meaning.specs.Countermodel.{countermodel}
use Rattle.meaning.specs.Limits.{work_size}
use Rattle.meaning.specs.Operations.{input_refusal}
use Rattle.meaning.specs.Policy.{policy_of}
use Rattle.meaning.specs.Promises.{IsRefusal}
use Rattle.meaning.specs.Vocabulary.{Vocabulary, vocabulary_of}
use Rattle.meaning.specs.declared.Comparison.{Comparison}
use Rattle.meaning.specs.declared.Verdict.{Verdict}

-- a verdict that is no refusal
abbrev pub Answers : Result Verdict Refusal → Type 0
Answers r = IsRefusal (verdict_answer r) → ⊥

-- a comparison that is no refusal
abbrev pub Compares : Result Comparison Refusal → Type 0
Compares r = IsRefusal (comparison_answer r) → ⊥

-- the output has as many words as the countermodel to be reported takes; where there is none, what follows has to be
abbrev pub Long : Vocabulary → ℕ → Decision → Type 0 → Type 0
Long K o contained rest = rest
Long K o (escapes s q u) rest = length (countermodel K u) ≤ o

-- Compliance's limits: accepted tables, a full work slice, over 65,536 combinations nowhere in the first policy
pub record WithinLimits (v p q : List ℕ) (w : ℕ) : Type 0 where
  pub accepted : input_refusal v p q ≡ 0
  pub full : work_size ≤ w
  pub few : too_many (vocabulary_of v) (policy_of p) (policy_of q) ≡ false

-- Equality's limits: accepted tables, a full work slice, over 65,536 combinations nowhere in either policy
pub record BothWithinLimits (v p q : List ℕ) (w : ℕ) : Type 0 where
  pub accepted : input_refusal v p q ≡ 0
  pub full : work_size ≤ w
  pub few : too_many (vocabulary_of v) (policy_of p) (policy_of q) ≡ false
  pub fewer : too_many (vocabulary_of v) (policy_of q) (policy_of p) ≡ false

-- Compliance gives no 22, the tables accepted and the work slice full: the short way succeeds, or no term has too many combinations
pub record Uncrowded (v p q : List ℕ) (w : ℕ) : Type 0 where
  pub accepted : input_refusal v p q ≡ 0
  pub full : work_size ≤ w
  pub free : crowded (vocabulary_of v) (policy_of p) (policy_of q) ≡ false

-- Equality gives no 22: so it is in each direction, by itself
pub record BothUncrowded (v p q : List ℕ) (w : ℕ) : Type 0 where
  pub accepted : input_refusal v p q ≡ 0
  pub full : work_size ≤ w
  pub forth : crowded (vocabulary_of v) (policy_of p) (policy_of q) ≡ false
  pub back : crowded (vocabulary_of v) (policy_of q) (policy_of p) ≡ false

-- Compliance's output is long enough
abbrev pub LongFor : List ℕ → List ℕ → List ℕ → ℕ → Type 0
LongFor v p q o = Long (vocabulary_of v) o (resolve (vocabulary_of v) (policy_of p) (policy_of q)) (Unit {0})

-- Equality's is: the first direction's countermodel is reported before the second's
abbrev pub LongEither : List ℕ → List ℕ → List ℕ → ℕ → Type 0
LongEither v p q o = Long (vocabulary_of v) o (resolve (vocabulary_of v) (policy_of p) (policy_of q)) (LongFor v q p o)

-- Compliance answers: no 22, and an output that is long enough
pub record Answerable (v p q : List ℕ) (w o : ℕ) : Type 0 where
  pub within : Uncrowded v p q w
  pub long : LongFor v p q o

-- Equality answers: no 22 in either direction, and an output that is long enough
pub record Comparable (v p q : List ℕ) (w o : ℕ) : Type 0 where
  pub within : BothUncrowded v p q w
  pub long : LongEither v p q o
