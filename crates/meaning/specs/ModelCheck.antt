-- SPECIFICATION 9.8: what Model check decides of the interpretation that a model's facts stand for.
use Rattle.std.specs.Prelude.{ℕ, Bool, ◌&&◌, ◌||◌, false, not, true, List, eqb}
use Rattle.meaning.specs.Intervals.{is_within}
use Rattle.meaning.specs.Lists.{all, any}
use Rattle.meaning.specs.Model.{Fact, edge, member, value}
use Rattle.meaning.specs.Policy.{Chain, Policy, class, end, impossible, interval, some}
use Rattle.meaning.specs.Vocabulary.{Axiom, Vocabulary, below, disjoint, functional_feature, functional_role, many_feature, many_role}
use Rattle.meaning.specs.Vocabulary.{range, stated}

-- a term at an individual, by tests on the facts
abbrev pub is_member : ℕ → ℕ → Fact → Bool
is_member a i (member b j) = eqb a b && eqb i j
is_member a i (edge r j k) = false
is_member a i (value f j v) = false

abbrev pub reaches : ℕ → ℕ → (ℕ → Bool) → Fact → Bool
reaches r i p (member b j) = false
reaches r i p (edge q j k) = (eqb r q && eqb i j) && p k
reaches r i p (value f j v) = false

abbrev pub has_within : ℕ → ℕ → ℕ → ℕ → Fact → Bool
has_within f i lo hi (member b j) = false
has_within f i lo hi (edge q j k) = false
has_within f i lo hi (value g j v) = (eqb f g && eqb i j) && is_within lo hi v

abbrev pub holds : List Fact → Chain → ℕ → Bool
holds F end i = true
holds F (class a next) i = any (is_member a i) F && holds F next i
holds F (impossible next) i = false
holds F (some r child next) i = any (reaches r i (holds F child)) F && holds F next i
holds F (interval f lo hi next) i = any (has_within f i lo hi) F && holds F next i

abbrev pub is_in : List Fact → Policy → ℕ → Bool
is_in F P i = any (λ p. holds F p i) P

-- a statement of the vocabulary, by tests on the facts
abbrev pub on_member : ℕ → (ℕ → Bool) → Fact → Bool
on_member a k (member c i) = not (eqb a c) || k i
on_member a k (edge r i j) = true
on_member a k (value f i v) = true

abbrev pub on_edge : ℕ → (ℕ → ℕ → Bool) → Fact → Bool
on_edge r k (member c i) = true
on_edge r k (edge q i j) = not (eqb r q) || k i j
on_edge r k (value f i v) = true

abbrev pub on_value : ℕ → (ℕ → ℕ → Bool) → Fact → Bool
on_value f k (member c i) = true
on_value f k (edge q i j) = true
on_value f k (value g i v) = not (eqb f g) || k i v

abbrev pub obeys : List Fact → Axiom → Bool
obeys F (below a b) = all (on_member a (λ i. any (is_member b i) F)) F
obeys F (disjoint a b) = all (on_member a (λ i. not (any (is_member b i) F))) F
obeys F (functional_role r) = all (on_edge r (λ i j. all (on_edge r (λ h k. not (eqb i h) || eqb j k)) F)) F
obeys F (functional_feature f) = all (on_value f (λ i v. all (on_value f (λ h w. not (eqb i h) || eqb v w)) F)) F
obeys F (range r c) = all (on_edge r (λ i j. any (is_member c j) F)) F
obeys F (many_role r) = true
obeys F (many_feature f) = true

abbrev pub is_model : List Fact → Vocabulary → Bool
is_model F K = all (obeys F) (stated K)

-- it satisfies the vocabulary, and individual 1 is in the first policy and outside the second
unfoldable pub refutes : List Fact → Vocabulary → Policy → Policy → Bool
refutes F K P Q = is_model F K && (is_in F P 1 && not (is_in F Q 1))
