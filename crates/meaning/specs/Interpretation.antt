-- SPECIFICATION 5.1 to 5.3: interpretations, when one satisfies a vocabulary, and who is in a policy.
use Rattle.std.specs.Prelude.{ℕ, Bool, ◌≡◌, T}
use Rattle.meaning.specs.Intervals.{Within}
use Rattle.meaning.specs.Lists.{All, Any}
use Rattle.meaning.specs.Policy.{Chain, Policy, class, end, impossible, interval, some}
use Rattle.meaning.specs.Vocabulary.{Axiom, Vocabulary, below, disjoint, functional_feature, functional_role, many_feature, many_role}
use Rattle.meaning.specs.Vocabulary.{range, stated}

-- SPECIFICATION 5.1: sets of whole numbers, and of pairs of them. A predicate may be of any kind, so that finite and countable
-- interpretations are among these
pub record Interpretation : Type 1 where
  pub individual : ℕ → Type 0
  pub in_class : ℕ → ℕ → Type 0
  pub by_role : ℕ → ℕ → ℕ → Type 0
  pub has_value : ℕ → ℕ → ℕ → Type 0

-- there is an individual; classes, roles and features speak of individuals alone
pub record Proper (I : Interpretation) : Type 0 where
  pub inhabited : (i : ℕ) × I.individual i
  pub classes : (a i : ℕ) → I.in_class a i → I.individual i
  pub sources : (r i j : ℕ) → I.by_role r i j → I.individual i
  pub targets : (r i j : ℕ) → I.by_role r i j → I.individual j
  pub holders : (f i v : ℕ) → I.has_value f i v → I.individual i

-- SPECIFICATION 5.2, kind by kind
abbrev pub Obeys : Interpretation → Axiom → Type 0
Obeys I (below a b) = (i : ℕ) → I.in_class a i → I.in_class b i
Obeys I (disjoint a b) = (i : ℕ) → I.in_class a i → I.in_class b i → ⊥
Obeys I (functional_role r) = (i j k : ℕ) → I.by_role r i j → I.by_role r i k → j ≡ k
Obeys I (functional_feature f) = (i v w : ℕ) → I.has_value f i v → I.has_value f i w → v ≡ w
Obeys I (range r c) = (i j : ℕ) → I.by_role r i j → I.in_class c j
Obeys I (many_role r) = Unit {0}
Obeys I (many_feature f) = Unit {0}

-- SPECIFICATION 5.2: all that the vocabulary states is obeyed, the default too
pub record Satisfies (I : Interpretation) (K : Vocabulary) : Type 0 where
  pub obeyed : All (Obeys I) (stated K)

-- SPECIFICATION 5.3: every conjunct of the chain holds of individual d
abbrev pub Holds : Interpretation → Chain → ℕ → Type 0
Holds I end d = Unit {0}
Holds I (class a next) d = I.in_class a d × Holds I next d
Holds I (impossible next) d = ⊥
Holds I (some r child next) d = ((e : ℕ) × I.by_role r d e × Holds I child e) × Holds I next d
Holds I (interval f lo hi next) d = ((v : ℕ) × I.has_value f d v × Within lo hi v) × Holds I next d

-- SPECIFICATION 5.3: it is in one of the policy's terms
abbrev pub In : Interpretation → Policy → ℕ → Type 0
In I P d = Any (λ p. Holds I p d) P

-- an interpretation whose sets are tests: a type that a contract can quantify over
pub record Tested : Type 0 where
  pub individual : ℕ → Bool
  pub in_class : ℕ → ℕ → Bool
  pub by_role : ℕ → ℕ → ℕ → Bool
  pub has_value : ℕ → ℕ → ℕ → Bool

abbrev pub interpreted : Tested → Interpretation
interpreted M = record {
  individual = λ i. T (M.individual i);
  in_class = λ a i. T (M.in_class a i);
  by_role = λ r i j. T (M.by_role r i j);
  has_value = λ f i v. T (M.has_value f i v);
}
