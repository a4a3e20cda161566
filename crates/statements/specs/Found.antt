-- What the functions find in a text, said of its tokens.
use Rattle.std.specs.Prelude.{◌<◌, ◌≤◌, ℕ, List, [], ◌∷◌, ◌≡◌, Option, Some, None, drop, length}
use Rattle.meaning.specs.Program.{bytes}
use Rattle.tokens.specs.declared.Token.{Token as Place}
use Rattle.tokens.specs.Places.{Within, bytes_of}
use Rattle.tokens.specs.Tokens.{Token, tokens}
use Rattle.statements.specs.declared.Axiom.{Axiom}
use Rattle.statements.specs.declared.Axiom.TheVariants.{Below, Disjoint, FunctionalFeature, FunctionalRole, Range}
use Rattle.statements.specs.declared.NameOf.{NameOf}
use Rattle.statements.specs.declared.NameOf.TheVariants.{Class, Feature, Role}
use Rattle.statements.specs.declared.Found.{Found}
use Rattle.statements.specs.declared.Item.{Item}
use Rattle.statements.specs.declared.Item.TheVariants.{End, Statement as Says}
use Rattle.statements.specs.declared.OneName.{OneName}
use Rattle.statements.specs.declared.Said.{Said}
use Rattle.statements.specs.declared.Said.TheVariants.{Declares, States}
use Rattle.statements.specs.declared.TwoNames.{TwoNames}
use Rattle.statements.specs.Forms.{Symbol, Sort, Statement, Use, after, class, closing, declares, exactly, feature, front, front_of}
use Rattle.statements.specs.Forms.{name, none, nothing, ontology, opening, parsed, role, statements, states, taken, take_symbols, with_name, wrong}

-- ---- symbols

-- the first symbol does not stand in front of the tokens, whatever follows it
abbrev pub Missing : Symbol → List Token → Type 0
Missing p ts = (ps : List Symbol) → take_symbols (p ∷ ps) ts ≡ none

-- a word stands in front of the tokens from a place on, and those behind it are the tokens from next on
pub record Stands (w text : List ℕ) (at next : ℕ) : Type 0 where
  pub rises : at < next
  pub ends : next ≤ length text
  pub same : (ps : List Symbol) → take_symbols (exactly w ∷ ps) (tokens (drop at text)) ≡ take_symbols ps (tokens (drop next text))

abbrev pub Took : List ℕ → List ℕ → ℕ → Option ℕ → Type 0
Took w text at None = Missing (exactly w) (tokens (drop at text))
Took w text at (Some next) = Stands w text at next

-- and so does a name
pub record StandsName (text : List ℕ) (at : ℕ) (t : Place) : Type 0 where
  pub begins : at ≤ t.from
  pub within : Within text t
  pub same : (s : Sort) (ps : List Symbol) →
      take_symbols (name s ∷ ps) (tokens (drop at text)) ≡ with_name s (bytes_of text t) (take_symbols ps (tokens (drop t.to text)))

abbrev pub Named : List ℕ → ℕ → Option Place → Type 0
Named text at None = (s : Sort) → Missing (name s) (tokens (drop at text))
Named text at (Some t) = StandsName text at t

-- ---- names in brackets

abbrev pub used : Sort → Token → Use
used s t = record { sort = s; token = t }

pub record StandsOne (text : List ℕ) (at : ℕ) (r : OneName) : Type 0 where
  pub rises : at < r.next
  pub ends : r.next ≤ length text
  pub within : Within text r.name
  pub same : (s : Sort) (ps : List Symbol) →
      take_symbols (opening ∷ (name s ∷ (closing ∷ ps))) (tokens (drop at text)) ≡ with_name s (bytes_of text r.name) (take_symbols ps (tokens (drop r.next text)))

abbrev pub One : List ℕ → ℕ → Option OneName → Type 0
One text at None = (s : Sort) (ps : List Symbol) → take_symbols (opening ∷ (name s ∷ (closing ∷ ps))) (tokens (drop at text)) ≡ none
One text at (Some r) = StandsOne text at r

pub record StandsTwo (text : List ℕ) (at : ℕ) (r : TwoNames) : Type 0 where
  pub rises : at < r.next
  pub ends : r.next ≤ length text
  pub first : Within text r.first
  pub second : Within text r.second
  pub same : (s u : Sort) →
      take_symbols (opening ∷ (name s ∷ (name u ∷ (closing ∷ [])))) (tokens (drop at text)) ≡
      taken (used s (bytes_of text r.first) ∷ (used u (bytes_of text r.second) ∷ [])) (tokens (drop r.next text))

abbrev pub Two : List ℕ → ℕ → Option TwoNames → Type 0
Two text at None = (s u : Sort) → take_symbols (opening ∷ (name s ∷ (name u ∷ (closing ∷ [])))) (tokens (drop at text)) ≡ none
Two text at (Some r) = StandsTwo text at r

-- ---- statements

-- what is said, of the text's bytes; an axiom has the kind of its record
abbrev pub use_of : List ℕ → NameOf → Use
use_of text (Class t) = used class (bytes_of text t)
use_of text (Role t) = used role (bytes_of text t)
use_of text (Feature t) = used feature (bytes_of text t)

abbrev pub declared_of : List ℕ → NameOf → Statement
declared_of text (Class t) = declares class (used class (bytes_of text t) ∷ [])
declared_of text (Role t) = declares role (used role (bytes_of text t) ∷ [])
declared_of text (Feature t) = declares feature (used feature (bytes_of text t) ∷ [])

abbrev pub stated_of : List ℕ → Axiom → Statement
stated_of text (Below t u) = states 1 (used class (bytes_of text t) ∷ (used class (bytes_of text u) ∷ []))
stated_of text (Disjoint t u) = states 2 (used class (bytes_of text t) ∷ (used class (bytes_of text u) ∷ []))
stated_of text (FunctionalRole t) = states 3 (used role (bytes_of text t) ∷ [])
stated_of text (FunctionalFeature t) = states 4 (used feature (bytes_of text t) ∷ [])
stated_of text (Range t u) = states 5 (used role (bytes_of text t) ∷ (used class (bytes_of text u) ∷ []))

abbrev pub statement_of : List ℕ → Said → Statement
statement_of text (Declares d) = declared_of text d
statement_of text (States a) = stated_of text a

-- the names stand in the text
abbrev pub NameWithin : List ℕ → NameOf → Type 0
NameWithin text (Class t) = Within text t
NameWithin text (Role t) = Within text t
NameWithin text (Feature t) = Within text t

abbrev pub AxiomWithin : List ℕ → Axiom → Type 0
AxiomWithin text (Below t u) = Within text t × Within text u
AxiomWithin text (Disjoint t u) = Within text t × Within text u
AxiomWithin text (FunctionalRole t) = Within text t
AxiomWithin text (FunctionalFeature t) = Within text t
AxiomWithin text (Range t u) = Within text t × Within text u

abbrev pub SaidWithin : List ℕ → Said → Type 0
SaidWithin text (Declares d) = NameWithin text d
SaidWithin text (States a) = AxiomWithin text a

-- where a statement that was read from a place on stands
pub record Placed (text : List ℕ) (start : ℕ) (r : Found) : Type 0 where
  pub rises : start < r.next
  pub ends : r.next ≤ length text
  pub within : SaidWithin text r.says

-- the statement in front of tokens
pub record StandsStated (text : List ℕ) (ts : List Token) (start : ℕ) (r : Found) : Type 0 where
  pub placed : Placed text start r
  pub same : front_of ts ≡ front (statement_of text r.says) (tokens (drop r.next text))

abbrev pub Stated : List ℕ → List Token → ℕ → Option Found → Type 0
Stated text ts start None = front_of ts ≡ nothing
Stated text ts start (Some r) = StandsStated text ts start r

abbrev pub declaring : List ℕ → ℕ → List Token
declaring text at = bytes "Declaration" ∷ tokens (drop at text)

-- ---- the ontology

pub record NextSays (text : List ℕ) (at : ℕ) (r : Found) : Type 0 where
  pub placed : Placed text at r
  pub same : statements (tokens (drop at text)) ≡ after (statement_of text r.says) (statements (tokens (drop r.next text)))

-- the statements from a place on, by the item that was read there
abbrev pub Next : List ℕ → ℕ → Option Item → Type 0
Next text at None = statements (tokens (drop at text)) ≡ wrong
Next text at (Some End) = statements (tokens (drop at text)) ≡ parsed []
Next text at (Some (Says r)) = NextSays text at r

-- behind `Ontology(`
pub record Opens (text : List ℕ) (next : ℕ) : Type 0 where
  pub ends : next ≤ length text
  pub same : ontology (tokens text) ≡ statements (tokens (drop next text))

abbrev pub Opened : List ℕ → Option ℕ → Type 0
Opened text None = ontology (tokens text) ≡ wrong
Opened text (Some next) = Opens text next
