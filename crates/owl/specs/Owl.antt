-- SPECIFICATION 3.4 and 9.12: the vocabulary that an OWL text states, and the operation Read OWL.
use Rattle.meaning.specs.declared.refusals.Refusal.{Refusal}
use Rattle.std.specs.Prelude.{ℕ, cond, List, [], ◌++◌, ◌∷◌, map, ◌≡◌, eqb, leb, get_or, length, Result}
use Rattle.declarations.specs.Names.{declared, declared_well, number_in}
use Rattle.meaning.specs.Answers.{FillingResult, filling_answer, wrote}
use Rattle.meaning.specs.Limits.{most_axioms, most_text}
use Rattle.meaning.specs.Lists.{flat_map}
use Rattle.meaning.specs.Operations.{Outcome, output_after, refuses, unless, written}
use Rattle.meaning.specs.Records.{or_else}
use Rattle.meaning.specs.Vocabulary.{Axiom, Vocabulary, below, disjoint, functional_feature, functional_role, many_feature, many_role}
use Rattle.meaning.specs.Vocabulary.{range, unnamed, vocabulary_words}
use Rattle.statements.specs.Forms.{Parsed, Statement, class, declares, feature, ontology, parsed, role, states, wrong}
use Rattle.tokens.specs.Tokens.{tokens}

-- what an axiom of a kind states of the numbers of its names
abbrev pub axiom_of : ℕ → List ℕ → Axiom
axiom_of k ns =
    cond (eqb k 1) (below (get_or ns 0 0) (get_or ns 1 0))
    (cond (eqb k 2) (disjoint (get_or ns 0 0) (get_or ns 1 0))
    (cond (eqb k 3) (functional_role (get_or ns 0 0))
    (cond (eqb k 4) (functional_feature (get_or ns 0 0))
    (range (get_or ns 0 0) (get_or ns 1 0)))))

abbrev pub axioms_by : List Statement → Statement → List Axiom
axioms_by l (declares s us) = []
axioms_by l (states k us) = axiom_of k (map (number_in l) us) ∷ []

-- the axioms of statements, in text order
unfoldable pub axioms_in : List Statement → List Axiom
axioms_in l = flat_map (axioms_by l) l

-- a role that no axiom makes functional has many values, and so has a feature: OWL knows no default
unfoldable pub many_in : List Statement → List Axiom
many_in l = map many_role (unnamed 3 (axioms_in l) (length (declared role l))) ++ map many_feature (unnamed 4 (axioms_in l) (length (declared feature l)))

-- what statements say: how many names each sort has, the axioms, then who has many values
unfoldable pub vocabulary_in : List Statement → Vocabulary
vocabulary_in l =
    record {
      classes = length (declared class l);
      roles = length (declared role l);
      features = length (declared feature l);
      axioms = axioms_in l ++ many_in l;
    }

-- the statements of a text that is not too long
abbrev pub parsed_of : List ℕ → Parsed
parsed_of text = let told = ontology (tokens text) in cond (leb (length text) most_text) told wrong

-- 42, then 1
abbrev pub statements_refusal : List Statement → ℕ
statements_refusal l =
    let many : ℕ = cond (leb (length (vocabulary_in l).axioms) most_axioms) 0 1 in
    or_else (cond (declared_well l) 0 42) many

-- 41 before them
abbrev pub parsed_refusal : Parsed → ℕ
parsed_refusal wrong = 41
parsed_refusal (parsed l) = statements_refusal l

unfoldable pub owl_refusal : List ℕ → ℕ
owl_refusal text = parsed_refusal (parsed_of text)

abbrev pub parsed_words : Parsed → List ℕ
parsed_words wrong = []
parsed_words (parsed l) = vocabulary_words (vocabulary_in l)

unfoldable pub owl_words : List ℕ → List ℕ
owl_words text = parsed_words (parsed_of text)

-- Read OWL, SPECIFICATION 9.12: o is the length of the output
unfoldable pub read_owl : List ℕ → ℕ → Outcome FillingResult
read_owl text o = let told = written o wrote (owl_words text) in unless refuses (owl_refusal text) told

-- what the operation leaves behind, whatever its slices held: the answer is the definition's, and so is the output
pub record OwlPost (text before after : List ℕ) (r : Result ℕ Refusal) : Type 0 where
  pub answer : filling_answer r ≡ (read_owl text (length before)).answer
  pub output : after ≡ output_after (read_owl text (length before)).words before
