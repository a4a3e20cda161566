-- SPECIFICATION 2.4: what links reach, and which slices are the same in it. A record that no link reaches has no effect on any answer.
use Rattle.std.specs.Prelude.{◌*◌, ◌+◌, ◌<◌, ◌≤◌, ℕ, List, ◌≡◌, get_or, length}
use Rattle.meaning.specs.Model.{fact_next, first_fact}
use Rattle.meaning.specs.Policy.{child_of, first_term, next_of}
use Rattle.meaning.specs.Vocabulary.{axiom_next, class_count, feature_count, first_axiom, role_count}

-- the vocabulary's chain, from the header's link by each next; 0 leads nowhere
pub data ReachedAxiom (v : List ℕ) : ℕ → Type 0 where
  axiom_by_header : ReachedAxiom v (first_axiom v)
  axiom_by_next : {k : ℕ} → ReachedAxiom v k → 1 ≤ k → ReachedAxiom v (axiom_next v k)

-- the policy's records, from the header's link by each child and each next
pub data ReachedRecord (p : List ℕ) : ℕ → Type 0 where
  record_by_header : ReachedRecord p (first_term p)
  record_by_child : {k : ℕ} → ReachedRecord p k → 1 ≤ k → ReachedRecord p (child_of p k)
  record_by_next : {k : ℕ} → ReachedRecord p k → 1 ≤ k → ReachedRecord p (next_of p k)

-- the model's chain, from the header's link by each next
pub data ReachedFact (m : List ℕ) : ℕ → Type 0 where
  fact_by_header : ReachedFact m (first_fact m)
  fact_by_next : {k : ℕ} → ReachedFact m k → 1 ≤ k → ReachedFact m (fact_next m k)

-- record k is equal in two slices with records of so many words, word by word
abbrev pub SameRecord : ℕ → List ℕ → List ℕ → ℕ → Type 0
SameRecord width l l' k = (i : ℕ) → i < width → get_or l (width * k + i) 0 ≡ get_or l' (width * k + i) 0

-- two slices of one length with equal headers and equal reached records
pub record Same (width : ℕ) (Reached : ℕ → Type 0) (l l' : List ℕ) : Type 0 where
  pub lengths : length l ≡ length l'
  pub headers : SameRecord width l l' 0
  pub records : {k : ℕ} → Reached k → SameRecord width l l' k

-- a vocabulary's records have 4 words
abbrev pub SameVocabulary : List ℕ → List ℕ → Type 0
SameVocabulary v v' = Same 4 (ReachedAxiom v) v v'

-- a policy's have 6
abbrev pub SamePolicy : List ℕ → List ℕ → Type 0
SamePolicy p p' = Same 6 (ReachedRecord p) p p'

-- a model's have 5
abbrev pub SameModel : List ℕ → List ℕ → Type 0
SameModel m m' = Same 5 (ReachedFact m) m m'

-- the counts, by which names are tested: all that reading a policy or a model takes from the vocabulary
pub record SameCounts (v v' : List ℕ) : Type 0 where
  pub classes : class_count v ≡ class_count v'
  pub roles : role_count v ≡ role_count v'
  pub features : feature_count v ≡ feature_count v'
