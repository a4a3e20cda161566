-- What a decision asks of its caller, and what it tells.
use Rattle.std.specs.Prelude.{ℕ, Option, None, Some, Bool, ◌&&◌, false, not, List, Result, ◌≡◌, ltb, length}
use Rattle.countermodel.specs.Facts.{Modelled}
use Rattle.frames.specs.Frames.{Only}
use Rattle.functional.specs.declared.Functional.{Functional}
use Rattle.layout.specs.Combination.{Combined}
use Rattle.layout.specs.Tables.{Pieces, Tabled}
use Rattle.layout.specs.declared.Tables.{Tables}
use Rattle.meaning.specs.Accepted.{ChainOf}
use Rattle.meaning.specs.Answers.{VerdictResult, compliant, outside, verdict_answer}
use Rattle.meaning.specs.Containment.{first_failure, resolve, too_many}
use Rattle.meaning.specs.Countermodel.{countermodel}
use Rattle.meaning.specs.Limits.{most_combinations}
use Rattle.meaning.specs.Lists.{found, nowhere}
use Rattle.meaning.specs.NormalForm.{Form, normal_form, possible}
use Rattle.meaning.specs.Operations.{Outcome, compliance_of, output_after, reported, says, written}
use Rattle.meaning.specs.Policy.{Chain, Policy, policy_of}
use Rattle.meaning.specs.Splitting.{combination_count}
use Rattle.meaning.specs.Vocabulary.{Vocabulary, vocabulary_of}
use Rattle.meaning.specs.declared.Verdict.{Verdict}
use Rattle.meaning.specs.declared.refusals.Refusal.{Refusal}
use Rattle.preparation.specs.Prepared.{Accepting, Prepared}
use Rattle.short_way.specs.Stops.{LeftAt, PreparedPair, Stops}
use Rattle.short_way.specs.declared.Stop.{Stop}
use Rattle.splitting.specs.Ends.{Ends}

-- the answer is the outcome's, and the output holds the outcome's words
pub record Delivers (x : Outcome VerdictResult) (o o' : List ℕ) (r : Result Verdict Refusal) : Type 0 where
  pub answer : verdict_answer r ≡ x.answer
  pub output : o' ≡ output_after x.words o

-- the pair is prepared, and the short way stopped there
pub record StoppedPair (v p q w : List ℕ) (f : Functional) (stop : Option Stop) : Type 0 where
  pub ready : PreparedPair v p q w f
  pub stops : Stops v p q stop

-- the pair is prepared, the terms before record k, at the place s, pass whole, and no term of the first has too many combinations
pub record Countable (v p q w : List ℕ) (f : Functional) (s k : ℕ) : Type 0 where
  pub ready : PreparedPair v p q w f
  pub left : LeftAt v p q s k
  pub few : too_many (vocabulary_of v) (policy_of p) (policy_of q) ≡ false

-- what is reported of the combination that the tables hold, by whatever vocabulary
abbrev pub Reports : ℕ → ℕ → List ℕ → Tables → List ℕ → List ℕ → Result Verdict Refusal → Type 0
Reports s c w t o o' r =
    (K : Vocabulary) (u : Form) → Modelled K u w t → Delivers (written (length o) (outside s c) (countermodel K u)) o o' r

-- the decision's outcome, with an output of so many words
abbrev pub decision : List ℕ → List ℕ → List ℕ → ℕ → Outcome VerdictResult
decision v p q o = reported (vocabulary_of v) o outside (resolve (vocabulary_of v) (policy_of p) (policy_of q)) (says compliant)

-- a term is possible and has too many combinations
abbrev pub exceeds : Vocabulary → Policy → Chain → Bool
exceeds K Q c = possible K c && ltb most_combinations (combination_count Q (normal_form K c))

-- whether the term c is one, by whatever vocabulary is prepared and has its names, against the policy whose ends these are
abbrev pub Exceeds : Chain → List ℕ → List ℕ → Functional → Bool → Type 0
Exceeds c e w f r = (v : List ℕ) → Prepared v w f → ChainOf v c → (Q : Policy) → Ends Q e → r ≡ exceeds (vocabulary_of v) Q c

-- whether there is one in p, by whatever vocabulary is prepared and accepts it
abbrev pub Counts : List ℕ → List ℕ → List ℕ → Functional → Bool → Type 0
Counts p e w f r = (v : List ℕ) → Accepting v p w f → (Q : Policy) → Ends Q e → r ≡ too_many (vocabulary_of v) (policy_of p) Q

-- the decision is delivered, by whatever vocabulary it can be made
abbrev pub Decides : List ℕ → List ℕ → List ℕ → Functional → Stop → List ℕ → List ℕ → Result Verdict Refusal → Type 0
Decides p q w f stop o o' r = (v : List ℕ) → Countable v p q w f stop.place stop.term → Delivers (decision v p q (length o)) o o' r

-- Compliance after 21, with an output of so many words
abbrev pub settled : List ℕ → List ℕ → List ℕ → ℕ → Outcome VerdictResult
settled v p q o = compliance_of (vocabulary_of v) (policy_of p) (policy_of q) o

-- that is delivered, by whatever vocabulary
abbrev pub SettlesFrom : List ℕ → List ℕ → List ℕ → Functional → Option Stop → List ℕ → List ℕ → Result Verdict Refusal → Type 0
SettlesFrom p q w f stop o o' r = (v : List ℕ) → StoppedPair v p q w f stop → Delivers (settled v p q (length o)) o o' r

-- the first combination of a term to fail, counted from 1, which the tables hold, or none
abbrev pub Failure : Vocabulary → Policy → Chain → List ℕ → Tables → Option ℕ → Type 0
Failure K Q c w t None = first_failure K Q c ≡ nowhere
Failure K Q c w t (Some k) = (u : Form) × (first_failure K Q c ≡ found k u) × Combined K u w t

-- the answer is that for whatever term the tables hold; nothing but pieces has changed
pub record Failed (Q : Policy) (w w' : List ℕ) (t : Tables) (r : Option ℕ) : Type 0 where
  pub told : (v : List ℕ) (c : Chain) → t.impossible ≡ not (possible (vocabulary_of v) c) → Tabled (vocabulary_of v) (normal_form (vocabulary_of v) c) w t →
      Failure (vocabulary_of v) Q c w' t r
  pub only : Only (Pieces t.constraints) w w'
