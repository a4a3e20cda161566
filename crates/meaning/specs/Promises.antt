-- SPECIFICATION 9.10, what the answers promise: the statements that proofs/ proves of the operations' definitions.
use Rattle.std.specs.Prelude.{◌≤◌, suc, ℕ, Bool, not, List, ◌++◌, ◌∷◌, ◌⊎◌, ◌≡◌, T, length}
use Rattle.meaning.specs.Answers.{Answer, CheckResult, ComparisonResult, PossibilityResult, VerdictResult, compliant, differs, equal}
use Rattle.meaning.specs.Answers.{first_possible, no, none_possible, outside, refused, result, yes}
use Rattle.meaning.specs.Containment.{Contained, Indistinct, Refutes, passes}
use Rattle.meaning.specs.Countermodel.{canonical_model, countermodel, individuals}
use Rattle.meaning.specs.Interpretation.{Holds, In, Interpretation, Proper, Satisfies}
use Rattle.meaning.specs.Lists.{All}
use Rattle.meaning.specs.Model.{Fact, facts_of, individual_count, stands}
use Rattle.meaning.specs.NormalForm.{Form, normal_form, possible}
use Rattle.meaning.specs.Operations.{Outcome, refuses, says}
use Rattle.meaning.specs.Policy.{Chain, Policy, policy_of}
use Rattle.meaning.specs.Splitting.{combinations}
use Rattle.meaning.specs.Vocabulary.{Vocabulary, vocabulary_of}

-- the answer is a refusal
abbrev pub IsRefusal : {A : Type 0} → Answer A → Type 0
IsRefusal a = (n : ℕ) × (a ≡ refused n)

-- SPECIFICATION 9.10, one value or many: the interpretation with other pairs of role r, and with other values of feature f
abbrev pub with_pairs : Interpretation → ℕ → (ℕ → ℕ → Type 0) → Interpretation
with_pairs I r S = record {
  individual = I.individual;
  in_class = I.in_class;
  by_role = λ q i j. ((q ≡ r) × S i j) ⊎ ((q ≡ r → ⊥) × I.by_role q i j);
  has_value = I.has_value;
}

abbrev pub with_values : Interpretation → ℕ → (ℕ → ℕ → Type 0) → Interpretation
with_values I f S = record {
  individual = I.individual;
  in_class = I.in_class;
  by_role = I.by_role;
  has_value = λ g i v. ((g ≡ f) × S i v) ⊎ ((g ≡ f → ⊥) × I.has_value g i v);
}

-- Possible: no interpretation that satisfies the vocabulary has an individual in the policy
abbrev pub Vacant : Vocabulary → Policy → Type 1
Vacant K P = (I : Interpretation) → Proper I → Satisfies I K → (d : ℕ) → In I P d → ⊥

-- a finite interpretation that satisfies K, with individual 1 in the term
pub record Satisfiable (K : Vocabulary) (p : Chain) : Type 0 where
  pub number : ℕ
  pub facts : List Fact
  pub proper : Proper (stands number facts)
  pub satisfies : Satisfies (stands number facts) K
  pub holds : Holds (stands number facts) p 1

-- an answer of Possible is correct: the first term that some interpretation has an individual in, or that there is none
pub data CorrectPossibility (K : Vocabulary) (P : Policy) : Answer PossibilityResult → Type 1 where
  unsaid_possibility : (n : ℕ) → CorrectPossibility K P (refused n)
  vacant : Vacant K P → CorrectPossibility K P (result none_possible)
  inhabited : (before : Policy) (term : Chain) (after : Policy) → P ≡ before ++ (term ∷ after) → Vacant K before → Satisfiable K term →
      CorrectPossibility K P (result (first_possible (suc (length before))))

-- a term complies: each of its combinations passes, where it is possible
abbrev pub Complies : Vocabulary → Policy → Chain → Type 0
Complies K Q p = T (possible K p) → All (λ u. T (passes K Q u)) (combinations Q (normal_form K p))

-- x is the first element of l that fails, at the place k
pub record First {A : Type 0} (p : A → Bool) (l : List A) (k : ℕ) (x : A) : Type 0 where
  pub before : List A
  pub after : List A
  pub split : l ≡ before ++ (x ∷ after)
  pub place : k ≡ length before
  pub passed : All (λ y. T (p y)) before
  pub fails : T (not (p x))

-- term p of P at the place s, and its combination u at the place q, are the first to fail
pub record FirstFailure (K : Vocabulary) (P Q : Policy) (s q : ℕ) (u : Form) : Type 0 where
  pub before : Policy
  pub term : Chain
  pub after : Policy
  pub split : P ≡ before ++ (term ∷ after)
  pub place : s ≡ length before
  pub complied : All (Complies K Q) before
  pub is_possible : T (possible K term)
  pub combination : First (passes K Q) (combinations Q (normal_form K term)) q u

-- a countermodel's words: a finite interpretation that refutes the containment, of the first combination to fail
pub record Escape (K : Vocabulary) (P Q : Policy) (s q : ℕ) (words : List ℕ) : Type 0 where
  pub combination : Form
  pub first : FirstFailure K P Q s q combination
  pub written : words ≡ countermodel K combination
  pub individuals_are : individual_count words ≡ individuals combination
  pub facts_are : facts_of words ≡ canonical_model K combination
  pub refutes : Refutes K P Q (individual_count words) (facts_of words)

-- an answer of Compliance is correct: "compliant" where the first policy is contained in the second; else s and q, the first to
-- fail, with the words written
pub data CorrectVerdict (K : Vocabulary) (P Q : Policy) (o : ℕ) : Outcome VerdictResult → Type 1 where
  unsaid_verdict : (n : ℕ) → CorrectVerdict K P Q o (refuses n)
  agreed : Contained K P Q → CorrectVerdict K P Q o (says compliant)
  escaped : (s q : ℕ) (words : List ℕ) → Escape K P Q s q words → length words ≤ o →
      CorrectVerdict K P Q o (record { answer = result (outside (suc s) (suc q) (length words)); words = words })

-- an answer of Equality is correct: "equal" where no interpretation tells the policies apart; else a side, with the first to fail
-- there and the words written
pub data CorrectComparison (K : Vocabulary) (P Q : Policy) (o : ℕ) : Outcome ComparisonResult → Type 1 where
  unsaid_comparison : (n : ℕ) → CorrectComparison K P Q o (refuses n)
  same : Indistinct K P Q → CorrectComparison K P Q o (says equal)
  side1 : (s q : ℕ) (words : List ℕ) → Escape K P Q s q words → length words ≤ o →
      CorrectComparison K P Q o (record { answer = result (differs 1 (suc s) (suc q) (length words)); words = words })
  side2 : (s q : ℕ) (words : List ℕ) → Contained K P Q → Escape K Q P s q words → length words ≤ o →
      CorrectComparison K P Q o (record { answer = result (differs 2 (suc s) (suc q) (length words)); words = words })

-- what a model's words say: their interpretation satisfies the vocabulary, and its first individual is in the first policy and
-- outside the second
abbrev pub Countered : List ℕ → List ℕ → List ℕ → List ℕ → Type 0
Countered v p q m =
    let I = stands (individual_count m) (facts_of m) in
    Satisfies I (vocabulary_of v) × In I (policy_of p) 1 × (In I (policy_of q) 1 → ⊥)

-- an answer of Model check is correct
pub data CorrectCheck (v p q m : List ℕ) : Answer CheckResult → Type 0 where
  unsaid_check : (n : ℕ) → CorrectCheck v p q m (refused n)
  countered : Countered v p q m → CorrectCheck v p q m (result yes)
  standing : (Countered v p q m → ⊥) → CorrectCheck v p q m (result no)
