-- The names that the records of a kind have, put into a set; and what is refused behind 1 and 2.
use Rattle.std.specs.Prelude.{ℕ, cond, List, [], ◌∷◌, ◌≡◌, eqb, length}
use Rattle.meaning.specs.Records.{or_else}
use Rattle.meaning.specs.Vocabulary.{axiom_kind, axiom_left, axioms_of, axioms_refusal, first_axiom, is_opposed, names_by}
use Rattle.words.specs.Sets.{including_all}

-- the name of record k, where it is of a kind
abbrev pub name_at : List ℕ → ℕ → ℕ → List ℕ
name_at v kind k = cond (eqb (axiom_kind v k) kind) (axiom_left v k ∷ []) []

-- the names of a kind are put into a set
abbrev pub Noted : List ℕ → ℕ → List ℕ → List ℕ → Type 0
Noted v kind w w' = w' ≡ including_all w (names_by kind (axioms_of v))

-- what comes behind 1 and 2
abbrev pub chain_refusal : List ℕ → ℕ
chain_refusal v =
    let opposed : ℕ = cond (is_opposed (axioms_of v)) 44 0 in
    or_else (axioms_refusal (length v) v (first_axiom v)) opposed
