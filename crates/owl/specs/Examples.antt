-- SPECIFICATION 11.4: OWL texts with their answers, a table. Most of the settled readings of 3.4 and 9.12 have a row.
use Rattle.std.specs.Prelude.{ℕ, List, [], ◌++◌, ◌∷◌, map, ◌≡◌, length}
use Prim.Native.String.{String}
use Rattle.meaning.specs.Answers.{result, wrote}
use Rattle.meaning.specs.Operations.{refuses}
use Rattle.meaning.specs.Program.{bytes}
use Rattle.owl.specs.Owl.{read_owl}

-- a text, the length of the output, and the words written or the refusal
pub data Example : Type 0 where
  writes : String → ℕ → List ℕ → Example
  is_refused : String → ℕ → ℕ → Example

abbrev pub Correct : Example → Type 0
Correct (writes text o ws) = read_owl (bytes text) o ≡ record { answer = result (wrote (length ws)); words = ws }
Correct (is_refused text o n) = read_owl (bytes text) o ≡ refuses n

abbrev four : ℕ → ℕ → ℕ → ℕ → List ℕ → List ℕ
four a b c d rest = a ∷ (b ∷ (c ∷ (d ∷ rest)))

-- used before it is declared, one name in two sorts, two names without a space, layout; no axiom; every kind, equal axioms, a class
-- disjoint from itself; a name of 32; one axiom
abbrev legal : List Example
legal =
    writes "Ontology( SubClassOf(:A:B) Declaration(Class(:B)) Declaration ( Class(:A ))\n\tFunctionalDataProperty(:A)Declaration(DataProperty(:A)))" 12
    (four 2 0 1 1 (four 1 2 1 2 (four 4 1 0 0 [])))
    ∷ (writes "Ontology(Declaration(Class(:A1)))" 4 (four 1 0 0 0 [])
    ∷ (writes "Ontology(Declaration(Class(:c))Declaration(ObjectProperty(:r))Declaration(DataProperty(:f))SubClassOf(:c:c)DisjointClasses(:c:c)FunctionalObjectProperty(:r)FunctionalDataProperty(:f)ObjectPropertyRange(:r:c)ObjectPropertyRange(:r:c))" 100
    (four 1 1 1 1 (four 1 1 1 2 (four 2 1 1 3 (four 3 1 0 4 (four 4 1 0 5 (four 5 1 1 6 (four 5 1 1 0 [])))))))
    ∷ (writes " \n\tOntology\n(\tDeclaration ( Class ( :12345678901234567890123456789012 ) ) ) \n" 4 (four 1 0 0 0 [])
    ∷ (writes "Ontology(Declaration(Class(:A))SubClassOf(:A:A))" 8 (four 1 0 0 1 (four 1 1 1 0 []))
    ∷ []))))

-- many values where no axiom says one: a role; a feature; some and not others, rising, behind the axioms, roles before features though
-- declared behind them, one made functional twice, one with a range
abbrev many : List Example
many =
    writes "Ontology(Declaration(Class(:A))Declaration(ObjectProperty(:r)))" 8 (four 1 1 0 1 (four 6 1 0 0 []))
    ∷ (writes "Ontology(Declaration(Class(:A))Declaration(DataProperty(:f)))" 8 (four 1 0 1 1 (four 7 1 0 0 []))
    ∷ (writes "Ontology(Declaration(DataProperty(:f))Declaration(DataProperty(:g))FunctionalObjectProperty(:s)Declaration(ObjectProperty(:r))Declaration(ObjectProperty(:s))Declaration(ObjectProperty(:t))Declaration(Class(:c))FunctionalObjectProperty(:s)FunctionalDataProperty(:f)ObjectPropertyRange(:t:c))" 100
    (four 1 3 2 1 (four 3 2 0 2 (four 3 2 0 3 (four 4 1 0 4 (four 5 3 1 5 (four 6 1 0 6 (four 6 3 0 7 (four 7 2 0 0 []))))))))
    ∷ []))

-- nothing; no end; twice; behind the end; another word; another case; a longer keyword; a keyword cut; one name; three names; a name
-- of no character; of 33; split; with a dash; a prefix; an IRI; a comment; a carriage return; a byte over 127; no sort; a digit behind a
-- keyword; a wrong end, told before a wrong name
abbrev departing : List String
departing =
    ""
    ∷ ("Ontology("
    ∷ ("Ontology(Declaration(Class(:A)))Ontology(Declaration(Class(:A)))"
    ∷ ("Ontology(Declaration(Class(:A))))"
    ∷ ("Ontology(Declaration(Class(:A))SubObjectPropertyOf(:A:A))"
    ∷ ("ontology(Declaration(Class(:A)))"
    ∷ ("Ontology(Declaration(Class(:A))SubClassOff(:A:A))"
    ∷ ("Ontology(Declaration(Class(:A))Sub ClassOf(:A:A))"
    ∷ ("Ontology(Declaration(Class(:A))DisjointClasses(:A))"
    ∷ ("Ontology(Declaration(Class(:A))DisjointClasses(:A:A:A))"
    ∷ ("Ontology(Declaration(Class(:)))"
    ∷ ("Ontology(Declaration(Class(:123456789012345678901234567890123)))"
    ∷ ("Ontology(Declaration(Class(: A)))"
    ∷ ("Ontology(Declaration(Class(:A-B)))"
    ∷ ("Prefix(:=<http://a>)Ontology(Declaration(Class(:A)))"
    ∷ ("Ontology(<http://a>Declaration(Class(:A)))"
    ∷ ("Ontology(Declaration(Class(:A)))#"
    ∷ ("Ontology(Declaration(Class(:A)))\r"
    ∷ ("Ontology(Declaration(Class(:é)))"
    ∷ ("Ontology(Declaration(:A))"
    ∷ ("Ontology(Declaration(Class2(:A)))"
    ∷ ("Ontology(Declaration(Class(:A))SubClassOf(:A:B))x"
    ∷ [])))))))))))))))))))))

-- no class; no class, but a role; a name not declared; of another case; in another sort; twice in one sort
abbrev misnamed : List String
misnamed =
    "Ontology()"
    ∷ ("Ontology(Declaration(ObjectProperty(:A)))"
    ∷ ("Ontology(Declaration(Class(:A))SubClassOf(:A:B))"
    ∷ ("Ontology(Declaration(Class(:A))SubClassOf(:a:A))"
    ∷ ("Ontology(Declaration(Class(:A))FunctionalObjectProperty(:A))"
    ∷ ("Ontology(Declaration(Class(:A))Declaration(ObjectProperty(:B))FunctionalDataProperty(:B))"
    ∷ ("Ontology(Declaration(Class(:A))Declaration(ObjectProperty(:B))ObjectPropertyRange(:A:B))"
    ∷ ("Ontology(Declaration(Class(:A))Declaration(Class(:A)))"
    ∷ [])))))))

abbrev pub owl_examples : List Example
owl_examples =
    legal
    ++ (many
    ++ (map (λ (text : String). is_refused text 100 41) departing
    ++ (map (λ (text : String). is_refused text 0 42) misnamed
    ++ (is_refused "Ontology(Declaration(Class(:A))SubClassOf(:A:A))" 7 23
    ∷ (is_refused "Ontology(Declaration(Class(:A))Declaration(ObjectProperty(:r)))" 7 23 ∷ [])))))
