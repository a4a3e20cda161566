-- What the model is held to: the records of the vocabulary, and one value of each role and feature that is functional.
use Rattle.std.specs.Prelude.{◌-◌, ℕ, Bool, cond, true, List, ◌↔◌, ◌≡◌, T, leb}
use Rattle.frames.specs.Frames.{Only, Span}
use Rattle.meaning.specs.Limits.{most_classes, most_roles}
use Rattle.meaning.specs.Lists.{all}
use Rattle.meaning.specs.Model.{Fact, facts_of}
use Rattle.meaning.specs.ModelCheck.{obeys}
use Rattle.meaning.specs.Records.{Name}
use Rattle.meaning.specs.Stated.{is_functional_feature, is_functional_role}
use Rattle.meaning.specs.Vocabulary.{Axiom, Vocabulary, axiom_kind, axiom_left, axiom_right, below, disjoint, functional_feature}
use Rattle.meaning.specs.Vocabulary.{functional_role, many_feature, many_role, range, vocabulary_of}
use Rattle.satisfaction.specs.Classes.{Interpreted}
use Rattle.satisfaction.specs.Links.{Single, link_of}
use Rattle.satisfaction.specs.Places.{ranges_at, series_count, values_end}
use Rattle.satisfaction.specs.Ranges.{Ranged}

-- what is asked of an axiom's record: that a name is functional is asked of all such names together
abbrev pub is_held : List Fact → Axiom → Bool
is_held F (below a b) = obeys F (below a b)
is_held F (disjoint a b) = obeys F (disjoint a b)
is_held F (functional_role r) = true
is_held F (functional_feature f) = true
is_held F (range r c) = obeys F (range r c)
is_held F (many_role r) = true
is_held F (many_feature f) = true

-- what asking of record k takes: a range is one that the sets have room for, and they are made
pub record Askable (v m w : List ℕ) (k : ℕ) : Type 0 where
  pub interpreted : Interpreted m w
  pub role : axiom_kind v k ≡ 5 → Name most_roles (axiom_left v k)
  pub class : axiom_kind v k ≡ 5 → Name most_classes (axiom_right v k)
  pub ranged : axiom_kind v k ≡ 5 → Ranged m w

-- r tells whether what all records ask is so
pub record RecordsHeld (v m w w' : List ℕ) (r : Bool) : Type 0 where
  pub told : r ≡ all (is_held (facts_of m)) (vocabulary_of v).axioms
  pub interpreted : Interpreted m w'
  pub only : Only (Span ranges_at values_end) w w'

-- number u of the series is that of a functional role or feature
unfoldable pub is_functional_number : Vocabulary → ℕ → Bool
is_functional_number K u = cond (leb u most_roles) (is_functional_role K u) (is_functional_feature K (u - most_roles))

-- no individual has two values of such a number
abbrev pub AllSingle : List ℕ → List ℕ → Type 0
AllSingle v m = (u : ℕ) → Name series_count u → T (is_functional_number (vocabulary_of v) u) → Single (link_of u) (facts_of m)

-- r tells whether that is so
pub record NumbersHeld (v m w w' : List ℕ) (r : Bool) : Type 0 where
  pub told : T r ↔ AllSingle v m
  pub interpreted : Interpreted m w'
  pub only : Only (Span ranges_at values_end) w w'
