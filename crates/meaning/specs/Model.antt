-- SPECIFICATION 8.1 to 8.4: a model's facts, the interpretation that they stand for, and its words, read and written.
use Rattle.std.specs.Prelude.{◌*◌, ◌+◌, ◌≤◌, ℕ, Bool, ◌&&◌, cond, List, [], ◌∷◌, eqb, leb, get_or, length}
use Rattle.meaning.specs.Interpretation.{Interpretation}
use Rattle.meaning.specs.Limits.{most_individuals, most_model_words}
use Rattle.meaning.specs.Lists.{◌∈◌}
use Rattle.meaning.specs.Records.{chained_words, is_name, is_onward, is_sized, last_of, link_to, list_along, refusal_along}
use Rattle.meaning.specs.Vocabulary.{class_count, feature_count, role_count}

-- SPECIFICATION 8.2: what a record says, kinds 1 to 3
pub data Fact : Type 0 where
  member : ℕ → ℕ → Fact
  edge : ℕ → ℕ → ℕ → Fact
  value : ℕ → ℕ → ℕ → Fact

-- SPECIFICATION 8.3: what n individuals and these facts stand for
abbrev pub stands : ℕ → List Fact → Interpretation
stands n F = record {
  individual = λ i. (1 ≤ i) × (i ≤ n);
  in_class = λ a i. member a i ∈ F;
  by_role = λ r i j. edge r i j ∈ F;
  has_value = λ f i v. value f i v ∈ F;
}

-- ---- reading

-- SPECIFICATION 8.2: the words of record k
abbrev pub fact_kind : List ℕ → ℕ → ℕ
fact_kind m k = get_or m (5 * k) 0

abbrev pub fact_name : List ℕ → ℕ → ℕ
fact_name m k = get_or m (5 * k + 1) 0

abbrev pub fact_owner : List ℕ → ℕ → ℕ
fact_owner m k = get_or m (5 * k + 2) 0

abbrev pub fact_other : List ℕ → ℕ → ℕ
fact_other m k = get_or m (5 * k + 3) 0

abbrev pub fact_next : List ℕ → ℕ → ℕ
fact_next m k = get_or m (5 * k + 4) 0

-- SPECIFICATION 8.1: the words of the header
abbrev pub first_fact : List ℕ → ℕ
first_fact m = get_or m 0 0

abbrev pub individual_count : List ℕ → ℕ
individual_count m = get_or m 1 0

abbrev pub fact_at : List ℕ → ℕ → Fact
fact_at m k =
    cond (eqb (fact_kind m k) 1) (member (fact_name m k) (fact_owner m k))
    (cond (eqb (fact_kind m k) 2) (edge (fact_name m k) (fact_owner m k) (fact_other m k))
    (value (fact_name m k) (fact_owner m k) (fact_other m k)))

abbrev pub facts_from : ℕ → List ℕ → ℕ → List Fact
facts_from f m k = list_along (fact_next m) (fact_at m) f k

-- what the records of the chain say
unfoldable pub facts_of : List ℕ → List Fact
facts_of m = facts_from (length m) m (first_fact m)

-- 32: the header's link, its number of individuals and its zeros
abbrev pub headed_model : List ℕ → Bool
headed_model m =
    leb (first_fact m) (last_of 5 m)
    && (is_name most_individuals (individual_count m) && (eqb (get_or m 2 0) 0 && (eqb (get_or m 3 0) 0 && eqb (get_or m 4 0) 0)))

-- SPECIFICATION 8.2: a record's kind, name, individuals and zero
abbrev pub fact_fits : List ℕ → List ℕ → ℕ → Bool
fact_fits v m k =
    is_name (individual_count m) (fact_owner m k)
    && cond (eqb (fact_kind m k) 1) (is_name (class_count v) (fact_name m k) && eqb (fact_other m k) 0)
    (cond (eqb (fact_kind m k) 2) (is_name (role_count v) (fact_name m k) && is_name (individual_count m) (fact_other m k))
    (eqb (fact_kind m k) 3 && is_name (feature_count v) (fact_name m k)))

-- and its link, as in SPECIFICATION 2.3
abbrev pub sound_fact : List ℕ → List ℕ → ℕ → Bool
sound_fact v m k = fact_fits v m k && is_onward (last_of 5 m) k (fact_next m k)

-- 33: the first record along the chain that is not sound. From record k on, at most so many records
abbrev pub facts_refusal : ℕ → List ℕ → List ℕ → ℕ → ℕ
facts_refusal f v m k = refusal_along 33 (fact_next m) (sound_fact v m) f k

-- 31: the length; then 32, then 33. The first refusal of a model's words (SPECIFICATION 9.8); 0 is none
unfoldable pub model_refusal : List ℕ → List ℕ → ℕ
model_refusal v m =
    let chain = facts_refusal (length m) v m (first_fact m) in
    let header = cond (headed_model m) chain 32 in
    cond (is_sized 5 most_model_words (length m)) header 31

-- ---- writing

-- a record's words, with its link
abbrev pub fact_words : Fact → ℕ → List ℕ
fact_words (member a i) next = 1 ∷ (a ∷ (i ∷ (0 ∷ (next ∷ []))))
fact_words (edge r i j) next = 2 ∷ (r ∷ (i ∷ (j ∷ (next ∷ []))))
fact_words (value f i v) next = 3 ∷ (f ∷ (i ∷ (v ∷ (next ∷ []))))

-- the words for a number of individuals and facts
unfoldable pub model_words : ℕ → List Fact → List ℕ
model_words n F = link_to 1 F ∷ (n ∷ (0 ∷ (0 ∷ (0 ∷ chained_words fact_words 1 F))))

-- how many words they are
abbrev pub model_size : List Fact → ℕ
model_size F = 5 * (length F + 1)
