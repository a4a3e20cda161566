-- What Equality says where it finds a difference.
use Rattle.meaning.specs.declared.refusals.Refusal.{Refusal}
use Rattle.std.specs.Prelude.{◌≤◌, ℕ, List, ◌⊎◌, ◌≡◌, length, take, Ok, Result}
use Rattle.meaning.specs.Containment.{Refutes}
use Rattle.meaning.specs.Model.{facts_of, individual_count}
use Rattle.meaning.specs.Policy.{policy_of}
use Rattle.meaning.specs.Vocabulary.{vocabulary_of}
use Rattle.meaning.specs.declared.Comparison.{Comparison}
use Rattle.meaning.specs.declared.Comparison.TheVariants as comparison

-- the words stand for a finite interpretation that satisfies the vocabulary, its first individual in p and outside q
abbrev pub RefutedBy : List ℕ → List ℕ → List ℕ → List ℕ → Type 0
RefutedBy v p q words = Refutes (vocabulary_of v) (policy_of p) (policy_of q) (individual_count words) (facts_of words)

-- what a side means (SPECIFICATION 9.7), of the words at the front of the output
pub record NamesASide (v p q o : List ℕ) (r : Result Comparison Refusal) : Type 0 where
  pub side : ℕ
  pub term : ℕ
  pub combination : ℕ
  pub size : ℕ
  pub answer : r ≡ Ok (comparison.Differs side term combination size)
  pub fits : size ≤ length o
  pub one_or_two : (side ≡ 1) ⊎ (side ≡ 2)
  pub first : side ≡ 1 → RefutedBy v p q (take size o)
  pub second : side ≡ 2 → RefutedBy v q p (take size o)
