-- The roles and the features that a vocabulary makes functional, a bit a name.
use Rattle.std.specs.Prelude.{ℕ, List, ◌≡◌}
use Rattle.functional.specs.declared.Functional.{Functional}
use Rattle.meaning.specs.Stated.{is_functional_feature, is_functional_role}
use Rattle.meaning.specs.Vocabulary.{vocabulary_of}
use Rattle.words.specs.Sets.{in_set}

-- the names are those of v
pub record FunctionalNames (v : List ℕ) (s : Functional) : Type 0 where
  pub role : (r : ℕ) → in_set s.roles r ≡ is_functional_role (vocabulary_of v) r
  pub feature : (f : ℕ) → in_set s.features f ≡ is_functional_feature (vocabulary_of v) f
