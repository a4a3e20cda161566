-- What Model check asks of its tables, and what it leaves behind.
use Rattle.std.specs.Prelude.{◌≤◌, ℕ, Bool, ◌&&◌, not, List, Result, ◌≡◌, length}
use Rattle.extension.specs.Columns.{columns_end}
use Rattle.extension.specs.Sets.{Taken}
use Rattle.frames.specs.Frames.{Only, Span}
use Rattle.meaning.specs.Answers.{checked_answer}
use Rattle.meaning.specs.Limits.{work_size}
use Rattle.meaning.specs.Model.{facts_of, model_refusal}
use Rattle.meaning.specs.ModelCheck.{is_in, refutes}
use Rattle.meaning.specs.Operations.{AcceptedInput, input_refusal, model_check, work_after}
use Rattle.meaning.specs.Policy.{policy_of}
use Rattle.meaning.specs.Promises.{CorrectCheck}
use Rattle.meaning.specs.Records.{or_else}
use Rattle.meaning.specs.Vocabulary.{vocabulary_of}
use Rattle.meaning.specs.declared.refusals.Refusal.{Refusal}
use Rattle.satisfaction.specs.Classes.{Interpreted}
use Rattle.satisfaction.specs.Places.{sets_at, sets_end}

-- the first refusal of the four tables
abbrev pub tables_refusal : List ℕ → List ℕ → List ℕ → List ℕ → ℕ
tables_refusal v p q m = or_else (input_refusal v p q) (model_refusal v m)

-- none is refused, and the work slice is full
pub record Checkable (v p q m w : List ℕ) : Type 0 where
  pub input : AcceptedInput v p q
  pub model : model_refusal v m ≡ 0
  pub long : work_size ≤ length w

-- the policies are accepted by a vocabulary that is, and the model's individuals have their classes
pub record Partable (p q m w c : List ℕ) : Type 0 where
  pub first : Taken p
  pub second : Taken q
  pub interpreted : Interpreted m w
  pub room : columns_end ≤ length c

-- r tells whether individual 1 is in the first policy and outside the second
pub record Parted (p q m w w' : List ℕ) (r : Bool) : Type 0 where
  pub told : r ≡ is_in (facts_of m) (policy_of p) 1 && not (is_in (facts_of m) (policy_of q) 1)
  pub only : Only (Span sets_at sets_end) w w'

-- the words' interpretation satisfies the vocabulary with its first individual in the first policy and outside the second
abbrev pub is_refuted : List ℕ → List ℕ → List ℕ → List ℕ → Bool
is_refuted v p q m = refutes (facts_of m) (vocabulary_of v) (policy_of p) (policy_of q)

-- whatever the slices held: the definition's answer, and the work slice as the answer has it; and the answer is right, yes exactly
-- where the words' interpretation satisfies the vocabulary with its first individual in the first policy and outside the second
pub record ModelCheckPost (v p q m w w' : List ℕ) (r : Result Bool Refusal) : Type 0 where
  pub answer : checked_answer r ≡ model_check v p q m (length w)
  pub work : w' ≡ work_after (checked_answer r) w
  pub right : CorrectCheck v p q m (checked_answer r)
