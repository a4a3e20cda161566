-- Containment of one policy in another: what it means, SPECIFICATION 5.4, and how it is decided by Algorithm 1, SPECIFICATION 7.4:
-- by combinations, SPECIFICATION 7.5, and by the short way, SPECIFICATION 7.7.
use Rattle.std.specs.Prelude.{◌≤◌, suc, ℕ, Bool, ◌&&◌, ◌||◌, cond, not, List, [], ◌∷◌, ◌↔◌, ◌⊎◌, T, ltb}
use Rattle.meaning.specs.Interpretation.{In, Interpretation, Proper, Satisfies, Tested, interpreted}
use Rattle.meaning.specs.Limits.{most_combinations}
use Rattle.meaning.specs.Lists.{Found, all, any, first_failing, found, nowhere}
use Rattle.meaning.specs.Model.{Fact, stands}
use Rattle.meaning.specs.NormalForm.{Form, normal_form, possible}
use Rattle.meaning.specs.Policy.{Chain, Policy}
use Rattle.meaning.specs.Splitting.{combination_count, combinations}
use Rattle.meaning.specs.Subsumption.{subsumed}
use Rattle.meaning.specs.Vocabulary.{Vocabulary}

-- SPECIFICATION 5.4: in every interpretation that satisfies the vocabulary each individual of the first policy is in the second
abbrev pub Contained : Vocabulary → Policy → Policy → Type 1
Contained K P Q = (I : Interpretation) → Proper I → Satisfies I K → (d : ℕ) → I.individual d → In I P d → In I Q d

-- containment over interpretations given by tests, and over finite ones given by their facts
abbrev pub ContainedTested : Vocabulary → Policy → Policy → Type 0
ContainedTested K P Q =
    (M : Tested) → Proper (interpreted M) → Satisfies (interpreted M) K →
    (d : ℕ) → T (M.individual d) → In (interpreted M) P d → In (interpreted M) Q d

abbrev pub ContainedFinite : Vocabulary → Policy → Policy → Type 0
ContainedFinite K P Q =
    (n : ℕ) (F : List Fact) → Proper (stands n F) → Satisfies (stands n F) K →
    (d : ℕ) → (1 ≤ d) × (d ≤ n) → In (stands n F) P d → In (stands n F) Q d

-- demand 3: in every interpretation the two policies have the same individuals
abbrev pub Indistinct : Vocabulary → Policy → Policy → Type 1
Indistinct K P Q = (I : Interpretation) → Proper I → Satisfies I K → (d : ℕ) → I.individual d → In I P d ↔ In I Q d

abbrev pub IndistinctTested : Vocabulary → Policy → Policy → Type 0
IndistinctTested K P Q =
    (M : Tested) → Proper (interpreted M) → Satisfies (interpreted M) K →
    (d : ℕ) → T (M.individual d) → In (interpreted M) P d ↔ In (interpreted M) Q d

-- an interpretation that satisfies the vocabulary, with an individual in the first policy and outside the second
pub record Apart (K : Vocabulary) (P Q : Policy) : Type 1 where
  pub interpretation : Interpretation
  pub proper : Proper interpretation
  pub satisfies : Satisfies interpretation K
  pub witness : ℕ
  pub there : interpretation.individual witness
  pub within : In interpretation P witness
  pub without : In interpretation Q witness → ⊥

-- SPECIFICATION 5.4: an interpretation tells the two apart, with an individual in one policy and outside the other
abbrev pub ToldApart : Vocabulary → Policy → Policy → Type 1
ToldApart K P Q = Apart K P Q ⊎ Apart K Q P

-- the facts stand for a finite interpretation that satisfies K, with individual 1 in the first policy and outside the second
pub record Refutes (K : Vocabulary) (P Q : Policy) (n : ℕ) (F : List Fact) : Type 0 where
  pub proper : Proper (stands n F)
  pub satisfies : Satisfies (stands n F) K
  pub within : In (stands n F) P 1
  pub without : In (stands n F) Q 1 → ⊥

-- a form, such as a combination, passes Algorithm 1 against some term of the second
unfoldable pub passes : Vocabulary → Policy → Form → Bool
passes K Q u = any (λ q. subsumed K q u.node u.successors) Q

-- the first combination to fail, counted from 1, of a possible term
unfoldable pub first_failure : Vocabulary → Policy → Chain → Found Form
first_failure K Q p =
    let tried = first_failing (passes K Q) 1 (combinations Q (normal_form K p)) in
    cond (possible K p) tried nowhere

-- SPECIFICATION 7.5: contained, or term s and combination q, both counted from 1 and the first to fail in that order
pub data Decision : Type 0 where
  contained : Decision
  escapes : ℕ → ℕ → Form → Decision

abbrev pub or_escape : ℕ → Found Form → Decision → Decision
or_escape s nowhere rest = rest
or_escape s (found q u) rest = escapes s q u

abbrev pub decide_from : Vocabulary → Policy → ℕ → Policy → Decision
decide_from K Q s [] = contained
decide_from K Q s (p ∷ P) = let rest = decide_from K Q (suc s) P in or_escape s (first_failure K Q p) rest

unfoldable pub decide : Vocabulary → Policy → Policy → Decision
decide K P Q = decide_from K Q 1 P

-- a possible term of the first, wherever it stands, has too many combinations
unfoldable pub too_many : Vocabulary → Policy → Policy → Bool
too_many K P Q = any (λ p. possible K p && ltb most_combinations (combination_count Q (normal_form K p))) P

-- ---- the short way, SPECIFICATION 7.7

-- a term is impossible, or its normal form, the constraints whole, passes
abbrev pub passes_whole : Vocabulary → Policy → Chain → Bool
passes_whole K Q p = not (possible K p) || passes K Q (normal_form K p)

-- every term of the first does, not necessarily by one term of the second for all
unfoldable pub short_way : Vocabulary → Policy → Policy → Bool
short_way K P Q = all (passes_whole K Q) P

-- SPECIFICATION 9.6: contained by the short way, without splitting; else what the combinations decide
unfoldable pub resolve : Vocabulary → Policy → Policy → Decision
resolve K P Q = let split = decide K P Q in cond (short_way K P Q) contained split

-- 22 (SPECIFICATION 9.6): it is considered only where the short way fails
unfoldable pub crowded : Vocabulary → Policy → Policy → Bool
crowded K P Q = not (short_way K P Q) && too_many K P Q
