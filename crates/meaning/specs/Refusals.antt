-- SPECIFICATION 9.1, a refusal is a number: that of each case of the enums, and of what a check of a table answers.
use Rattle.std.specs.Prelude.{ℕ, Err, Ok, Result}
use Rattle.meaning.specs.declared.refusals.ModelFault.{ModelFault}
use Rattle.meaning.specs.declared.refusals.PolicyFault.{PolicyFault}
use Rattle.meaning.specs.declared.refusals.Refusal.{Refusal}
use Rattle.meaning.specs.declared.refusals.VocabularyFault.{VocabularyFault}
use Rattle.meaning.specs.declared.refusals.ModelFault.TheVariants as model
use Rattle.meaning.specs.declared.refusals.PolicyFault.TheVariants as policy
use Rattle.meaning.specs.declared.refusals.Refusal.TheVariants as refusal
use Rattle.meaning.specs.declared.refusals.VocabularyFault.TheVariants as vocabulary
use Rattle.meaning.specs.Policy.{second_refusal}

abbrev pub vocabulary_number : VocabularyFault → ℕ
vocabulary_number vocabulary.Length = 1
vocabulary_number vocabulary.Header = 2
vocabulary_number vocabulary.Record = 3
vocabulary_number vocabulary.Opposed = 44

abbrev pub policy_number : PolicyFault → ℕ
policy_number policy.Length = 4
policy_number policy.Header = 5
policy_number policy.Record = 6
policy_number policy.ReachedTwice = 7
policy_number policy.TooDeep = 8

abbrev pub model_number : ModelFault → ℕ
model_number model.Length = 31
model_number model.Header = 32
model_number model.Record = 33

abbrev pub refusal_number : Refusal → ℕ
refusal_number (refusal.Vocabulary f) = vocabulary_number f
refusal_number (refusal.Policy f) = policy_number f
refusal_number (refusal.SecondPolicy f) = second_refusal (policy_number f)
refusal_number refusal.Work = 21
refusal_number refusal.Combinations = 22
refusal_number refusal.Output = 23
refusal_number (refusal.Model f) = model_number f
refusal_number refusal.Input = 40
refusal_number refusal.Text = 41
refusal_number refusal.Names = 42
refusal_number refusal.Spelling = 43
refusal_number refusal.Load = 45

-- what a check answers: the number of the fault that it found, or 0
abbrev pub fault_in : {A E : Type 0} → (E → ℕ) → Result A E → ℕ
fault_in number (Ok a) = 0
fault_in number (Err e) = number e
