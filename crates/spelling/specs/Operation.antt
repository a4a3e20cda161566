-- SPECIFICATION 9.13, the operation Spell: the spelling of an accepted policy, written.
use Rattle.meaning.specs.declared.refusals.Refusal.{Refusal}
use Rattle.std.specs.Prelude.{ℕ, cond, List, ◌≡◌, length, Result}
use Rattle.meaning.specs.Answers.{FillingResult, filling_answer, wrote}
use Rattle.meaning.specs.Operations.{Outcome, output_after, refuses, unless, work_after, work_refusal, written}
use Rattle.meaning.specs.Policy.{Policy, policy_of, policy_refusal}
use Rattle.meaning.specs.PolicyWords.{policy_words}
use Rattle.meaning.specs.Records.{or_else}
use Rattle.meaning.specs.Vocabulary.{Vocabulary, vocabulary_of, vocabulary_refusal}
use Rattle.spelling.specs.Spelling.{spelled, too_long}

-- the words of the spelling
unfoldable pub spelling_words : List ℕ → List ℕ → List ℕ
spelling_words v p = policy_words (spelled (vocabulary_of v) (policy_of p))

-- a policy to write, o the length of the output: 43, then the words, with 23 where the output is too short for them
abbrev pub filed : Policy → ℕ → Outcome FillingResult
filed P o = let told = written o wrote (policy_words P) in cond (too_long P) (refuses 43) told

-- Spell after 21
unfoldable pub spell_of : Vocabulary → Policy → ℕ → Outcome FillingResult
spell_of K P o = filed (spelled K P) o

-- Spell, SPECIFICATION 9.13: w is the length of the work slice
unfoldable pub spell : List ℕ → List ℕ → ℕ → ℕ → Outcome FillingResult
spell v p w o =
    let told = spell_of (vocabulary_of v) (policy_of p) o in
    unless refuses (or_else (vocabulary_refusal v) (or_else (policy_refusal v p) (work_refusal w))) told

-- what the operation leaves behind, whatever its slices held: the answer is the definition's, and so are the output and the work slice
pub record SpellPost (v p w w' o o' : List ℕ) (r : Result ℕ Refusal) : Type 0 where
  pub answer : filling_answer r ≡ (spell v p (length w) (length o)).answer
  pub output : o' ≡ output_after (spell v p (length w) (length o)).words o
  pub work : w' ≡ work_after (filling_answer r) w
