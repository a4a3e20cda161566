-- SPECIFICATION 3.2 and 6.1: what a vocabulary states, by kind. Whatever asks a vocabulary asks these; only reading it, what an
-- interpretation obeys, and the model check look at an axiom's kind themselves.
use Rattle.std.specs.Prelude.{ℕ, Bool, ◌&&◌, ◌||◌, cond, List, [], ◌∷◌, eqb}
use Rattle.meaning.specs.Lists.{flat_map}
use Rattle.meaning.specs.Vocabulary.{Axiom, Vocabulary, below, disjoint, functional_feature, functional_role, is_named, many_feature}
use Rattle.meaning.specs.Vocabulary.{many_role, range, stated}

-- kind 1: a is below b
abbrev pub subclass : Axiom → List (ℕ × ℕ)
subclass (below a b) = (a, b) ∷ []
subclass (disjoint a b) = []
subclass (functional_role r) = []
subclass (functional_feature f) = []
subclass (range r c) = []
subclass (many_role r) = []
subclass (many_feature f) = []

unfoldable pub subclasses : Vocabulary → List (ℕ × ℕ)
subclasses K = flat_map subclass K.axioms

-- kind 2: a and b share no individual
abbrev pub disjoint_pair : Axiom → List (ℕ × ℕ)
disjoint_pair (below a b) = []
disjoint_pair (disjoint a b) = (a, b) ∷ []
disjoint_pair (functional_role r) = []
disjoint_pair (functional_feature f) = []
disjoint_pair (range r c) = []
disjoint_pair (many_role r) = []
disjoint_pair (many_feature f) = []

unfoldable pub disjoint_pairs : Vocabulary → List (ℕ × ℕ)
disjoint_pairs K = flat_map disjoint_pair K.axioms

-- kind 5: b is a range of role a
abbrev pub range_pair : Axiom → List (ℕ × ℕ)
range_pair (below a b) = []
range_pair (disjoint a b) = []
range_pair (functional_role r) = []
range_pair (functional_feature f) = []
range_pair (range r c) = (r, c) ∷ []
range_pair (many_role r) = []
range_pair (many_feature f) = []

unfoldable pub range_pairs : Vocabulary → List (ℕ × ℕ)
range_pairs K = flat_map range_pair K.axioms

-- the reflexive and transitive closure of pairs: a pair x below y adds the ways from a to x, from y to b
abbrev pub closure : List (ℕ × ℕ) → ℕ → ℕ → Bool
closure [] a b = eqb a b
closure ((x, y) ∷ l) a b = closure l a b || (closure l a x && closure l y b)

-- ⊑*, the reflexive and transitive closure of the records of kind 1
unfoldable pub is_below : Vocabulary → ℕ → ℕ → Bool
is_below K a b = closure (subclasses K) a b

-- func(R) ∈ K, for a role and for a feature: by a record of kind 3 or 4, or by default
unfoldable pub is_functional_role : Vocabulary → ℕ → Bool
is_functional_role K r = is_named 3 (stated K) r

unfoldable pub is_functional_feature : Vocabulary → ℕ → Bool
is_functional_feature K f = is_named 4 (stated K) f

-- a record of kind 6 or 7 lifts the default
unfoldable pub is_many_role : Vocabulary → ℕ → Bool
is_many_role K r = is_named 6 K.axioms r

unfoldable pub is_many_feature : Vocabulary → ℕ → Bool
is_many_feature K f = is_named 7 K.axioms f

-- the classes A with range(R, A) ∈ K
abbrev pub ranges_in : List (ℕ × ℕ) → ℕ → List ℕ
ranges_in [] r = []
ranges_in ((q, c) ∷ l) r = cond (eqb r q) (c ∷ ranges_in l r) (ranges_in l r)

unfoldable pub ranges : Vocabulary → ℕ → List ℕ
ranges K r = ranges_in (range_pairs K) r
