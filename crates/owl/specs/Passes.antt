-- What the passes that look names up know of a text.
use Rattle.std.specs.Prelude.{◌≤◌, ℕ, Bool, true, List, [], ◌∷◌, map, ◌≡◌, get_or, length}
use Rattle.declarations.specs.Names.{counted, declared, is_known, needed, number_in}
use Rattle.declarations.specs.Passes.{Tabled, counts_in, list_of, parsed_at}
use Rattle.declarations.specs.declared.Counts.{Counts}
use Rattle.meaning.specs.Limits.{most_roles}
use Rattle.meaning.specs.Vocabulary.{Axiom, axiom_words, names_by, unnamed}
use Rattle.owl.specs.Owl.{axioms_by, axioms_in}
use Rattle.records.specs.Written.{Format}
use Rattle.statements.specs.Forms.{Statement, feature, ontology, parsed, role}
use Rattle.statements.specs.Found.{stated_of}
use Rattle.statements.specs.declared.Axiom.{Axiom as Form}
use Rattle.statements.specs.declared.Axiom.TheVariants.{Below, Disjoint, FunctionalFeature, FunctionalRole, Range}
use Rattle.tokens.specs.Tokens.{tokens}
use Rattle.words.specs.Members.{members}
use Rattle.words.specs.Sets.{capacity, including_all}

-- the statements of a text that keeps to the forms
unfoldable pub statements_of : List ℕ → List Statement
statements_of text = list_of (ontology (tokens text))

-- they begin at a place
pub record Begins (text : List ℕ) (start : ℕ) : Type 0 where
  pub ends : start ≤ length text
  pub same : ontology (tokens text) ≡ parsed_at text start

-- their counts are a vocabulary's, and their names stand in the table
pub record Ready (text table : List ℕ) (c : Counts) : Type 0 where
  pub parses : ontology (tokens text) ≡ parsed (statements_of text)
  pub counts : c ≡ counts_in (statements_of text)
  pub small : counted c.classes c.roles c.features ≡ true
  pub tabled : Tabled text table (statements_of text)

-- the kind of an axiom's record
abbrev pub kind_of : Form → ℕ
kind_of (Below t u) = 1
kind_of (Disjoint t u) = 2
kind_of (FunctionalRole t) = 3
kind_of (FunctionalFeature t) = 4
kind_of (Range t u) = 5

-- the numbers of an axiom's names, 0 where it has no second
abbrev pub first_number : List ℕ → Form → ℕ
first_number text a = get_or (map (number_in (statements_of text)) (needed (stated_of text a))) 0 0

abbrev pub second_number : List ℕ → Form → ℕ
second_number text a = get_or (map (number_in (statements_of text)) (needed (stated_of text a))) 1 0

-- an axiom is a record of four words
abbrev pub axioms : Format Axiom
axioms = record { width = 4; words = axiom_words }

-- ---- who is functional, and who has many values

-- whom axioms make functional was put into a set of roles and a set of features
pub record Noted (l : List Axiom) (roles roles' features features' : List ℕ) : Type 0 where
  pub same_roles : roles' ≡ including_all roles (names_by 3 l)
  pub same_features : features' ≡ including_all features (names_by 4 l)

-- a statement is looked up: whether its names are known, and the sets before and after
pub record Looks (l : List Statement) (s : Statement) (r : Bool) (roles roles' features features' : List ℕ) : Type 0 where
  pub value : r ≡ is_known l s
  pub noted : r ≡ true → Noted (axioms_by l s) roles roles' features features'

-- sets of the roles and of the features that have many values
pub record Many (text roles features : List ℕ) : Type 0 where
  pub role_words : capacity roles ≡ most_roles
  pub feature_words : capacity features ≡ most_roles
  pub same_roles : members roles ≡ unnamed 3 (axioms_in (statements_of text)) (length (declared role (statements_of text)))
  pub same_features : members features ≡ unnamed 4 (axioms_in (statements_of text)) (length (declared feature (statements_of text)))

-- a record of a kind for a name
abbrev pub naming : ℕ → Format ℕ
naming kind = record { width = 4; words = λ x next. kind ∷ (x ∷ (0 ∷ (next ∷ []))) }
