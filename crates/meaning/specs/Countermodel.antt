-- SPECIFICATION 8.4, Bonatti, Definition 2: the canonical model of a combination, its facts in their order, and the words written.
use Rattle.std.specs.Prelude.{◌+◌, suc, ℕ, Bool, ◌&&◌, ◌||◌, cond, List, [], ◌++◌, ◌∷◌, map, eqb, ltb}
use Rattle.meaning.specs.Intervals.{Constraint, value_of}
use Rattle.meaning.specs.Lists.{any, counting, filter}
use Rattle.meaning.specs.Model.{Fact, edge, member, model_words, value}
use Rattle.meaning.specs.NormalForm.{Form, Node, Successors, none, successor}
use Rattle.meaning.specs.Stated.{is_below}
use Rattle.meaning.specs.Vocabulary.{Vocabulary}

-- how many individuals there are, numbered as in SPECIFICATION 6.2
abbrev pub size : Successors → ℕ
size none = 0
size (successor r n under next) = 1 + size under + size next

abbrev pub individuals : Form → ℕ
individuals t = suc (size t.successors)

-- the classes above one of the individual's, rising
abbrev pub classes_above : Vocabulary → Node → List ℕ
classes_above K n = filter (λ b. any (λ c. is_below K c b) n.classes) (counting 1 K.classes)

-- the pairs of a feature and a value, rising, each once
abbrev pub same_pair : Constraint → Constraint → Bool
same_pair s t = eqb s.feature t.feature && eqb (value_of s) (value_of t)

abbrev pub pair_before : Constraint → Constraint → Bool
pair_before s t = ltb s.feature t.feature || (eqb s.feature t.feature && ltb (value_of s) (value_of t))

abbrev pub insert_pair : Constraint → List Constraint → List Constraint
insert_pair s [] = s ∷ []
insert_pair s (t ∷ l) = cond (same_pair s t) (t ∷ l) (cond (pair_before s t) (s ∷ (t ∷ l)) (t ∷ insert_pair s l))

abbrev pub pairs : List Constraint → List Constraint
pairs [] = []
pairs (s ∷ l) = insert_pair s (pairs l)

-- the edges by target: individual i's successors have the numbers from k on
abbrev pub edges : Successors → ℕ → ℕ → List Fact
edges none i k = []
edges (successor r n under next) i k = edge r i k ∷ edges next i (suc k + size under)

-- one individual's records
abbrev pub records_of : Vocabulary → Node → Successors → ℕ → List Fact
records_of K n under i =
    map (λ c. member c i) (classes_above K n)
    ++ (map (λ s. value s.feature i (value_of s)) (pairs n.constraints) ++ edges under i (suc i))

abbrev pub records_below : Vocabulary → Successors → ℕ → List Fact
records_below K none k = []
records_below K (successor r n under next) k =
    records_of K n under k ++ (records_below K under (suc k) ++ records_below K next (suc k + size under))

-- the canonical model of a combination: for each individual in turn its classes, its pairs, its edges
unfoldable pub canonical_model : Vocabulary → Form → List Fact
canonical_model K t = records_of K t.node t.successors 1 ++ records_below K t.successors 2

-- the words written for a combination
unfoldable pub countermodel : Vocabulary → Form → List ℕ
countermodel K t = model_words (individuals t) (canonical_model K t)
