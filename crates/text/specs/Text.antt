-- The outcome that a verdict and the output stand for, and how long its text may be.
use Rattle.meaning.specs.declared.refusals.Refusal.{Refusal}
use Rattle.std.specs.Prelude.{◌*◌, ◌≤◌, ℕ, List, [], map, ◌≡◌, length, take, Err, Ok, Result}
use Rattle.meaning.specs.Answers.{VerdictResult, verdict_answer}
use Rattle.meaning.specs.Limits.{output_size}
use Rattle.meaning.specs.Lists.{counting}
use Rattle.meaning.specs.Model.{Fact, fact_at, model_words}
use Rattle.meaning.specs.Operations.{Outcome}
use Rattle.meaning.specs.declared.Verdict.{Verdict}
use Rattle.meaning.specs.declared.Verdict.TheVariants.{Compliant, Outside}

-- the most bytes of a line: a name of at most 7, three numbers of at most ten digits with a space each, a line feed
abbrev pub most_line : ℕ
most_line = 41

-- a text that is long enough: a line for the answer and one for each record that an output holds
abbrev pub text_size : ℕ
text_size = most_line * 3277

-- records 1 to n of a model's words
abbrev pub records_to : List ℕ → ℕ → List Fact
records_to m n = map (fact_at m) (counting 1 n)

-- the words that a verdict reports, at the front of the output
abbrev pub reported_words : Result Verdict Refusal → List ℕ → List ℕ
reported_words (Ok Compliant) out = []
reported_words (Ok (Outside s q n)) out = take n out
reported_words (Err e) out = []

-- a verdict with the output as an outcome
abbrev pub shown : Result Verdict Refusal → List ℕ → Outcome VerdictResult
shown v out = record { answer = verdict_answer v; words = reported_words v out }

-- n words of the output are those of a model
pub record Model (out : List ℕ) (n : ℕ) : Type 0 where
  pub individuals : ℕ
  pub facts : List Fact
  pub words : take n out ≡ model_words individuals facts
  pub size : length (model_words individuals facts) ≡ n
  pub fits : n ≤ output_size

-- where a verdict reports words, they are a model's
abbrev pub Reported : Result Verdict Refusal → List ℕ → Type 0
Reported (Ok Compliant) out = Unit {0}
Reported (Ok (Outside s q n)) out = Model out n
Reported (Err e) out = Unit {0}

-- a verdict with the output shows an outcome, and can be printed
pub record Shows (v : Result Verdict Refusal) (out : List ℕ) (r : Outcome VerdictResult) : Type 0 where
  pub outcome : shown v out ≡ r
  pub reported : Reported v out
