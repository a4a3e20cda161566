-- The records that put a class below another, class by class, in two lists: a head for each class, and a next for each record.
use Rattle.std.specs.Prelude.{◌*◌, ◌<◌, ◌≤◌, suc, ℕ, true, List, ◌≡◌, get_or, length}
use Rattle.closure.specs.Rows.{lifted}
use Rattle.meaning.specs.Limits.{most_axioms, most_classes}
use Rattle.meaning.specs.Lists.{◌∈◌}
use Rattle.meaning.specs.Records.{Name}
use Rattle.meaning.specs.Vocabulary.{Axiom, axiom_at, axiom_fits, axiom_kind, class_count, vocabulary_of, vocabulary_refusal}
use Rattle.words.specs.Rows.{class_words}
use Rattle.words.specs.Sets.{word_sum}

-- how many records a vocabulary may have, its header among them
abbrev pub records : ℕ
records = suc most_axioms

-- a walk along the chain of v meets record k
pub record Met (v : List ℕ) (k : ℕ) : Type 0 where
  pub within : Name most_axioms k
  pub fits : axiom_fits v k ≡ true
  pub stated : axiom_at v k ∈ (vocabulary_of v).axioms

-- a walk along the chain of v meets record k, which says that a class is below another
pub record Rises (v : List ℕ) (k : ℕ) : Type 0 where
  pub met : Met v k
  pub kind : axiom_kind v k ≡ 1

-- x is none, or such a record before record b
abbrev pub Entry : List ℕ → ℕ → ℕ → Type 0
Entry v b x = (x ≡ 0 → ⊥) → (x < b) × Rises v x

-- the heads are of records before b
pub record Heads (v h : List ℕ) (b : ℕ) : Type 0 where
  pub at : (a : ℕ) → Entry v b (get_or h a 0)

-- each record's next is before it
pub record Nexts (v n : List ℕ) : Type 0 where
  pub at : (k : ℕ) → Entry v k (get_or n k 0)

-- what there is of the index, of the records before k, when the walk meets record k
abbrev pub Enterable : List ℕ → List ℕ → List ℕ → ℕ → Type 0
Enterable v h n k = (class_count v ≤ most_classes) × Met v k × Heads v h k × Nexts v n

-- no head is new, and some may be taken
abbrev pub HeadsTaken : List ℕ → List ℕ → List ℕ → Type 0
HeadsTaken v h h' = Heads v h' records × (word_sum h' ≤ word_sum h)

-- what there is of the index, with the rows of w, when class c is raised
pub record Raisable (v w h n : List ℕ) (c : ℕ) : Type 0 where
  pub accepted : vocabulary_refusal v ≡ 0
  pub room : class_count v * class_words ≤ length w
  pub class : c ≤ most_classes
  pub heads : Heads v h records
  pub nexts : Nexts v n

-- w' comes from w by what records of v state, in whatever order
pub data Raised (v w : List ℕ) : List ℕ → Type 0 where
  raised_none : {t : List ℕ} → t ≡ w → Raised v w t
  raised_more : {u t : List ℕ} {x : Axiom} → Raised v w u → x ∈ (vocabulary_of v).axioms → t ≡ lifted u x → Raised v w t
