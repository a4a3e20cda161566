-- SPECIFICATION 3 and 9.2: a vocabulary's records and what they state, by default too, what Read vocabulary refuses, the axioms of an
-- accepted table, and the words that are written for axioms.
use Rattle.std.specs.Prelude.{◌*◌, ◌+◌, ℕ, Bool, ◌&&◌, ◌||◌, cond, not, List, [], ◌++◌, ◌∷◌, map, eqb, leb, get_or, length}
use Rattle.meaning.specs.Limits.{most_classes, most_features, most_roles, most_vocabulary_words}
use Rattle.meaning.specs.Lists.{any, counting, filter, flat_map}
use Rattle.meaning.specs.Records.{chained_words, is_name, is_onward, is_sized, last_of, link_to, list_along, or_else, refusal_along}

-- SPECIFICATION 3.2: what a record states, kinds 1 to 7
pub data Axiom : Type 0 where
  below : ℕ → ℕ → Axiom
  disjoint : ℕ → ℕ → Axiom
  functional_role : ℕ → Axiom
  functional_feature : ℕ → Axiom
  range : ℕ → ℕ → Axiom
  many_role : ℕ → Axiom
  many_feature : ℕ → Axiom

-- what a vocabulary says: how many names each series has, and the axioms of its chain, in order
pub record Vocabulary : Type 0 where
  pub classes : ℕ
  pub roles : ℕ
  pub features : ℕ
  pub axioms : List Axiom

-- a record's words, with its link
abbrev pub axiom_words : Axiom → ℕ → List ℕ
axiom_words (below a b) next = 1 ∷ (a ∷ (b ∷ (next ∷ [])))
axiom_words (disjoint a b) next = 2 ∷ (a ∷ (b ∷ (next ∷ [])))
axiom_words (functional_role r) next = 3 ∷ (r ∷ (0 ∷ (next ∷ [])))
axiom_words (functional_feature f) next = 4 ∷ (f ∷ (0 ∷ (next ∷ [])))
axiom_words (range r c) next = 5 ∷ (r ∷ (c ∷ (next ∷ [])))
axiom_words (many_role r) next = 6 ∷ (r ∷ (0 ∷ (next ∷ [])))
axiom_words (many_feature f) next = 7 ∷ (f ∷ (0 ∷ (next ∷ [])))

-- ---- one value or many

-- the first name of an axiom of a kind: the role of one of kind 3 or 6, the feature of one of kind 4 or 7
abbrev pub name_by : ℕ → Axiom → List ℕ
name_by kind x = let ws = axiom_words x 0 in cond (eqb (get_or ws 0 0) kind) (get_or ws 1 0 ∷ []) []

-- the names that axioms of a kind have
unfoldable pub names_by : ℕ → List Axiom → List ℕ
names_by kind l = flat_map (name_by kind) l

-- x is one of them
unfoldable pub is_named : ℕ → List Axiom → ℕ → Bool
is_named kind l x = any (eqb x) (names_by kind l)

-- the names of a series of n that no axiom of a kind has, rising
unfoldable pub unnamed : ℕ → List Axiom → ℕ → List ℕ
unnamed kind l n = filter (λ x. not (is_named kind l x)) (counting 1 n)

-- SPECIFICATION 3.2, the default: a role is functional unless a record of kind 6 names it, a feature unless one of kind 7 does
unfoldable pub defaults : Vocabulary → List Axiom
defaults K = map functional_role (unnamed 6 K.axioms K.roles) ++ map functional_feature (unnamed 7 K.axioms K.features)

-- all that a vocabulary states: the axioms of its chain, then the default, as if records stated it
unfoldable pub stated : Vocabulary → List Axiom
stated K = K.axioms ++ defaults K

-- a role is named by kinds 3 and 6, or a feature by 4 and 7
unfoldable pub is_opposed : List Axiom → Bool
is_opposed l = any (is_named 6 l) (names_by 3 l) || any (is_named 7 l) (names_by 4 l)

-- ---- reading

-- SPECIFICATION 3.2: the words of record k
abbrev pub axiom_kind : List ℕ → ℕ → ℕ
axiom_kind v k = get_or v (4 * k) 0

abbrev pub axiom_left : List ℕ → ℕ → ℕ
axiom_left v k = get_or v (4 * k + 1) 0

abbrev pub axiom_right : List ℕ → ℕ → ℕ
axiom_right v k = get_or v (4 * k + 2) 0

abbrev pub axiom_next : List ℕ → ℕ → ℕ
axiom_next v k = get_or v (4 * k + 3) 0

-- SPECIFICATION 3.1: the words of the header
abbrev pub class_count : List ℕ → ℕ
class_count v = get_or v 0 0

abbrev pub role_count : List ℕ → ℕ
role_count v = get_or v 1 0

abbrev pub feature_count : List ℕ → ℕ
feature_count v = get_or v 2 0

abbrev pub first_axiom : List ℕ → ℕ
first_axiom v = get_or v 3 0

-- SPECIFICATION 3.2: a record's kind, names and zeros
abbrev pub axiom_fits : List ℕ → ℕ → Bool
axiom_fits v k =
    cond (eqb (axiom_kind v k) 1) (is_name (class_count v) (axiom_left v k) && is_name (class_count v) (axiom_right v k))
    (cond (eqb (axiom_kind v k) 2) (is_name (class_count v) (axiom_left v k) && is_name (class_count v) (axiom_right v k))
    (cond (eqb (axiom_kind v k) 3) (is_name (role_count v) (axiom_left v k) && eqb (axiom_right v k) 0)
    (cond (eqb (axiom_kind v k) 4) (is_name (feature_count v) (axiom_left v k) && eqb (axiom_right v k) 0)
    (cond (eqb (axiom_kind v k) 5) (is_name (role_count v) (axiom_left v k) && is_name (class_count v) (axiom_right v k))
    (cond (eqb (axiom_kind v k) 6) (is_name (role_count v) (axiom_left v k) && eqb (axiom_right v k) 0)
    (eqb (axiom_kind v k) 7 && (is_name (feature_count v) (axiom_left v k) && eqb (axiom_right v k) 0)))))))

abbrev pub sound_axiom : List ℕ → ℕ → Bool
sound_axiom v k = axiom_fits v k && is_onward (last_of 4 v) k (axiom_next v k)

-- 3: the first record along the chain that is not sound. The chain from record k on, at most so many records of it
abbrev pub axioms_refusal : ℕ → List ℕ → ℕ → ℕ
axioms_refusal f v k = refusal_along 3 (axiom_next v) (sound_axiom v) f k

-- 2: the header's counts and its link
abbrev pub headed_vocabulary : List ℕ → Bool
headed_vocabulary v =
    is_name most_classes (class_count v)
    && (leb (role_count v) most_roles && (leb (feature_count v) most_features && leb (first_axiom v) (last_of 4 v)))

-- what record k states
abbrev pub axiom_at : List ℕ → ℕ → Axiom
axiom_at v k =
    cond (eqb (axiom_kind v k) 1) (below (axiom_left v k) (axiom_right v k))
    (cond (eqb (axiom_kind v k) 2) (disjoint (axiom_left v k) (axiom_right v k))
    (cond (eqb (axiom_kind v k) 3) (functional_role (axiom_left v k))
    (cond (eqb (axiom_kind v k) 4) (functional_feature (axiom_left v k))
    (cond (eqb (axiom_kind v k) 5) (range (axiom_left v k) (axiom_right v k))
    (cond (eqb (axiom_kind v k) 6) (many_role (axiom_left v k))
    (many_feature (axiom_left v k)))))))

abbrev pub axioms_from : ℕ → List ℕ → ℕ → List Axiom
axioms_from f v k = list_along (axiom_next v) (axiom_at v) f k

-- all that the vocabulary's chain states
unfoldable pub axioms_of : List ℕ → List Axiom
axioms_of v = axioms_from (length v) v (first_axiom v)

-- 1: the length; then 2, then 3, then 44: a name both ways. The first refusal of Read vocabulary (SPECIFICATION 9.2); 0 is none
unfoldable pub vocabulary_refusal : List ℕ → ℕ
vocabulary_refusal v =
    let opposed : ℕ = cond (is_opposed (axioms_of v)) 44 0 in
    let chain = or_else (axioms_refusal (length v) v (first_axiom v)) opposed in
    let header = cond (headed_vocabulary v) chain 2 in
    cond (is_sized 4 most_vocabulary_words (length v)) header 1

unfoldable pub vocabulary_of : List ℕ → Vocabulary
vocabulary_of v = record { classes = class_count v; roles = role_count v; features = feature_count v; axioms = axioms_of v }

-- ---- writing

-- the words for what a vocabulary says
unfoldable pub vocabulary_words : Vocabulary → List ℕ
vocabulary_words K = K.classes ∷ (K.roles ∷ (K.features ∷ (link_to 1 K.axioms ∷ chained_words axiom_words 1 K.axioms)))

-- how many words they are
abbrev pub vocabulary_size : Vocabulary → ℕ
vocabulary_size K = 4 * (length K.axioms + 1)
