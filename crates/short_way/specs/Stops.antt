-- The short way, SPECIFICATION 7.7: what it asks of its caller, where it stops, and what is then left to be decided.
use Rattle.std.specs.Prelude.{◌+◌, ◌≤◌, suc, ℕ, Bool, false, true, List, Option, None, Some, ◌++◌, ◌≡◌, T, length}
use Rattle.functional.specs.declared.Functional.{Functional}
use Rattle.meaning.specs.Accepted.{ChainOf}
use Rattle.meaning.specs.Containment.{passes_whole, short_way}
use Rattle.meaning.specs.Limits.{most_records, work_size}
use Rattle.meaning.specs.Lists.{all}
use Rattle.meaning.specs.Policy.{Chain, Policy, policy_of, policy_refusal, term_at}
use Rattle.meaning.specs.Vocabulary.{vocabulary_of}
use Rattle.normal_form.specs.Tables.{Fit}
use Rattle.policy.specs.Terms.{term_links}
use Rattle.preparation.specs.Prepared.{Prepared}
use Rattle.records.specs.Chains.{Along}
use Rattle.short_way.specs.declared.Stop.{Stop}

-- the vocabulary is prepared, and both policies are accepted
pub record PreparedPair (v p q w : List ℕ) (f : Functional) : Type 0 where
  pub prepared : Prepared v w f
  pub full : work_size ≤ length w
  pub first : policy_refusal v p ≡ 0
  pub second : policy_refusal v q ≡ 0

-- the vocabulary is prepared, there is a term of p at record k, and q is accepted
pub record Askable (v p q w : List ℕ) (f : Functional) (k : ℕ) : Type 0 where
  pub prepared : Prepared v w f
  pub fit : Fit p w k
  pub named : ChainOf v (term_at p k)
  pub second : policy_refusal v q ≡ 0

-- whether the term c passes whole, by whatever vocabulary is prepared and has its names
abbrev pub PassesBy : Chain → List ℕ → List ℕ → Functional → Bool → Type 0
PassesBy c q w f r = (v : List ℕ) → Prepared v w f → ChainOf v c → r ≡ passes_whole (vocabulary_of v) (policy_of q) c

-- these are the terms of p from the place s on, counted from 1, and those before them pass whole
pub record Behind (v p q : List ℕ) (s : ℕ) (left : Policy) : Type 0 where
  pub before : Policy
  pub split : policy_of p ≡ before ++ left
  pub place : s ≡ suc (length before)
  pub passed : T (all (passes_whole (vocabulary_of v) (policy_of q)) before)

-- so are those that stand along the chain from record k on; there is room for their places
pub record LeftAt (v p q : List ℕ) (s k : ℕ) : Type 0 where
  pub left : Policy
  pub along : Along (term_links v p) k left
  pub room : s + length left ≤ suc most_records
  pub behind : Behind v p q s left

-- the short way of p in q fails, and what is left begins at the stop
pub record StopsAt (v p q : List ℕ) (stop : Stop) : Type 0 where
  pub fails : short_way (vocabulary_of v) (policy_of p) (policy_of q) ≡ false
  pub left : LeftAt v p q stop.place stop.term

-- where there is no stop, it succeeds
abbrev pub Stops : List ℕ → List ℕ → List ℕ → Option Stop → Type 0
Stops v p q None = short_way (vocabulary_of v) (policy_of p) (policy_of q) ≡ true
Stops v p q (Some stop) = StopsAt v p q stop

-- the same, by whatever vocabulary is prepared
abbrev pub StopsBy : List ℕ → List ℕ → List ℕ → Functional → Option Stop → Type 0
StopsBy p q w f stop = (v : List ℕ) → PreparedPair v p q w f → Stops v p q stop
