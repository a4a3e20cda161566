-- What a pass over a text's statements tells of them.
use Rattle.std.specs.Prelude.{◌*◌, ◌+◌, ◌≤◌, suc, ℕ, List, [], ◌∷◌, ◌≡◌, ◌<◌, Option, Some, None, drop, length}
use Rattle.declarations.specs.Names.{declared}
use Rattle.declarations.specs.declared.Counts.{Counts}
use Rattle.meaning.specs.Limits.{most_classes, most_features, most_roles, most_text}
use Rattle.name_table.specs.Table.{Listed, entered, names_from}
use Rattle.statements.specs.Forms.{Parsed, Sort, Statement, class, declares, feature, parsed, role, statements, states, wrong}
use Rattle.statements.specs.declared.NameOf.TheVariants.{Class, Feature, Role}
use Rattle.statements.specs.declared.Said.{Said}
use Rattle.statements.specs.declared.Said.TheVariants.{Declares, States}
use Rattle.tokens.specs.Tokens.{Token, tokens}

-- ---- the statements from a place on

abbrev pub parsed_at : List ℕ → ℕ → Parsed
parsed_at text at = statements (tokens (drop at text))

abbrev pub list_of : Parsed → List Statement
list_of wrong = []
list_of (parsed l) = l

unfoldable pub statements_at : List ℕ → ℕ → List Statement
statements_at text at = list_of (parsed_at text at)

-- the text keeps to the forms from a place on
pub record Parses (text : List ℕ) (at : ℕ) : Type 0 where
  pub ends : at ≤ length text
  pub same : parsed_at text at ≡ parsed (statements_at text at)

-- ---- counting

abbrev pub axiom_count : List Statement → ℕ
axiom_count [] = 0
axiom_count (declares s us ∷ l) = axiom_count l
axiom_count (states k us ∷ l) = suc (axiom_count l)

abbrev pub no_names : Counts
no_names = record { classes = 0; roles = 0; features = 0; axioms = 0 }

-- how many names each sort has, and how many axioms there are
abbrev pub counts_in : List Statement → Counts
counts_in l =
    record {
      classes = length (declared class l);
      roles = length (declared role l);
      features = length (declared feature l);
      axioms = axiom_count l;
    }

abbrev pub counts_of : Parsed → Option Counts
counts_of wrong = None
counts_of (parsed l) = Some (counts_in l)

-- with a statement more
abbrev pub one_more : Counts → Said → Counts
one_more c (Declares (Class t)) = record c { classes = c.classes + 1 }
one_more c (Declares (Role t)) = record c { roles = c.roles + 1 }
one_more c (Declares (Feature t)) = record c { features = c.features + 1 }
one_more c (States a) = record c { axioms = c.axioms + 1 }

-- ---- the table of declared names: those of the classes first, then the roles' and the features'

abbrev pub base_of : Sort → ℕ
base_of class = 0
base_of role = most_classes
base_of feature = most_classes + most_roles

-- an entry has three words
abbrev pub table_size : ℕ
table_size = 3 * (most_classes + most_roles + most_features)

-- names stand in the table, as those of a sort
pub record Sorted (text table : List ℕ) (s : Sort) (names : List Token) : Type 0 where
  pub listed : Listed text table (base_of s) (length names)
  pub same : names_from text table (base_of s) (length names) ≡ names

-- all that statements declare
pub record Tabled (text table : List ℕ) (l : List Statement) : Type 0 where
  pub classes : Sorted text table class (declared class l)
  pub roles : Sorted text table role (declared role l)
  pub features : Sorted text table feature (declared feature l)

-- with a statement more
abbrev pub listed_one : List ℕ → List ℕ → Counts → Said → List ℕ
listed_one text table c (Declares (Class t)) = entered text table c.classes t.from t.to
listed_one text table c (Declares (Role t)) = entered text table (most_classes + c.roles) t.from t.to
listed_one text table c (Declares (Feature t)) = entered text table (most_classes + most_roles + c.features) t.from t.to
listed_one text table c (States a) = table

-- there is room for one name more in its sort
abbrev pub HasRoom : Counts → Said → Type 0
HasRoom c (Declares (Class t)) = c.classes < most_classes
HasRoom c (Declares (Role t)) = c.roles < most_roles
HasRoom c (Declares (Feature t)) = c.features < most_features
HasRoom c (States a) = Unit {0}

-- the table has room for what the statements from a place on declare
pub record Fits (text table : List ℕ) (start : ℕ) : Type 0 where
  pub size : length table ≡ table_size
  pub short : length text ≤ most_text
  pub parses : Parses text start
  pub classes : length (declared class (statements_at text start)) ≤ most_classes
  pub roles : length (declared role (statements_at text start)) ≤ most_roles
  pub features : length (declared feature (statements_at text start)) ≤ most_features
