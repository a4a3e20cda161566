-- SPECIFICATION 3.4, the statements of a text: the eight forms as a table.
use Rattle.std.specs.Prelude.{suc, zero, ℕ, Bool, cond, false, List, [], ◌++◌, ◌∷◌, map, length}
use Rattle.meaning.specs.Program.{bytes}
use Rattle.tokens.specs.Tokens.{Token, is_name_token, same_bytes}

pub data Sort : Type 0 where
  class : Sort
  role : Sort
  feature : Sort

-- a name in a place that needs a sort
pub record Use : Type 0 where
  pub sort : Sort
  pub token : Token

-- a statement declares its name in a sort, or becomes a record of a kind
pub data Statement : Type 0 where
  declares : Sort → List Use → Statement
  states : ℕ → List Use → Statement

-- what stands at a place of a form: one token, or a name of a sort
pub data Symbol : Type 0 where
  exactly : Token → Symbol
  name : Sort → Symbol

-- a form, and the statement that its names make
pub record Row : Type 0 where
  pub symbols : List Symbol
  pub says : List Use → Statement

abbrev pub opening : Symbol
opening = exactly (bytes "(")

abbrev pub closing : Symbol
closing = exactly (bytes ")")

abbrev pub declaration : Token → Sort → Row
declaration word s =
    record {
      symbols = exactly (bytes "Declaration") ∷ (opening ∷ (exactly word ∷ (opening ∷ (name s ∷ (closing ∷ (closing ∷ []))))));
      says = declares s;
    }

abbrev pub axiom_form : ℕ → Token → List Sort → Row
axiom_form kind word places = record { symbols = exactly word ∷ (opening ∷ (map name places ++ (closing ∷ []))); says = states kind }

-- an axiom has the kind of its record, and the sorts of its names
unfoldable pub forms : List Row
forms =
    declaration (bytes "Class") class
    ∷ (declaration (bytes "ObjectProperty") role
    ∷ (declaration (bytes "DataProperty") feature
    ∷ (axiom_form 1 (bytes "SubClassOf") (class ∷ (class ∷ []))
    ∷ (axiom_form 2 (bytes "DisjointClasses") (class ∷ (class ∷ []))
    ∷ (axiom_form 3 (bytes "FunctionalObjectProperty") (role ∷ [])
    ∷ (axiom_form 4 (bytes "FunctionalDataProperty") (feature ∷ [])
    ∷ (axiom_form 5 (bytes "ObjectPropertyRange") (role ∷ (class ∷ []))
    ∷ [])))))))

-- what a form takes of the front of the tokens: its names, and the tokens left
pub data Taken : Type 0 where
  none : Taken
  taken : List Use → List Token → Taken

abbrev pub with_name : Sort → Token → Taken → Taken
with_name s t none = none
with_name s t (taken us rest) = taken (record { sort = s; token = t } ∷ us) rest

abbrev pub take_symbols : List Symbol → List Token → Taken
take_symbols [] ts = taken [] ts
take_symbols (p ∷ ps) [] = none
take_symbols (exactly w ∷ ps) (t ∷ ts) = let more = take_symbols ps ts in cond (same_bytes t w) more none
take_symbols (name s ∷ ps) (t ∷ ts) = let more = with_name s t (take_symbols ps ts) in cond (is_name_token t) more none

-- the statement at the front of the tokens, and the tokens left
pub data Front : Type 0 where
  nothing : Front
  front : Statement → List Token → Front

abbrev pub or_later : (List Use → Statement) → Taken → Front → Front
or_later says none later = later
or_later says (taken us rest) later = front (says us) rest

abbrev pub first_form : List Row → List Token → Front
first_form [] ts = nothing
first_form (f ∷ fs) ts = let later = first_form fs ts in or_later f.says (take_symbols f.symbols ts) later

unfoldable pub front_of : List Token → Front
front_of ts = first_form forms ts

abbrev pub left : Front → List Token
left nothing = []
left (front s rest) = rest

-- all the statements, or the text departs from the forms
pub data Parsed : Type 0 where
  wrong : Parsed
  parsed : List Statement → Parsed

abbrev pub after : Statement → Parsed → Parsed
after s wrong = wrong
after s (parsed l) = parsed (s ∷ l)

abbrev pub ahead : Front → Parsed → Parsed
ahead nothing p = wrong
ahead (front s rest) p = after s p

-- the last token closes the ontology
abbrev pub is_last : List Token → Bool
is_last [] = false
is_last (t ∷ []) = same_bytes t (bytes ")")
is_last (t ∷ (u ∷ ts)) = false

abbrev pub statements_from : ℕ → List Token → Parsed
statements_from zero ts = wrong
statements_from (suc f) ts =
    let more = ahead (front_of ts) (statements_from f (left (front_of ts))) in
    cond (is_last ts) (parsed []) more

unfoldable pub statements : List Token → Parsed
statements ts = statements_from (length ts) ts

abbrev pub after_opening : Taken → Parsed
after_opening none = wrong
after_opening (taken us rest) = statements rest

-- one ontology of these forms, and nothing beside it
unfoldable pub ontology : List Token → Parsed
ontology ts = after_opening (take_symbols (exactly (bytes "Ontology") ∷ (opening ∷ [])) ts)
