-- Laws of the definitions, over plain lists and numbers: what a function's proof cites at its returns.
use Prim.Native.Nat.{◌<◌, ◌≤◌, ℕ}
use mathlib.Core.Bool.{Bool, ◌&&◌, and-false, false, not, true}
use mathlib.Core.List.{List}
use mathlib.Core.Path.{◌∙◌, ◌≡◌, sym}
use lib.Dec.{eqb, leb}
use lib.ListN.{get_or, length}
use native.Mathlib.Omega.{arith}
use borrow.Author.Tests.{ne_eqb, not-false, not-true}
use Rattle.meaning.specs.Limits.{most_individuals, most_model_words}
use Rattle.meaning.specs.Model.{fact_fits, fact_kind, fact_name, fact_next, fact_other, fact_owner, facts_refusal, first_fact, headed_model}
use Rattle.meaning.specs.Model.{individual_count, model_refusal, sound_fact}
use Rattle.meaning.specs.Records.{Onward, falling, is_name, is_onward, is_sized, last_of}
use Rattle.meaning.specs.Vocabulary.{class_count, feature_count, role_count}
use Rattle.records.proofs.Chains.{Reading, reading_ends, reading_falls, reading_on, reading_starts, reading_stops}
use Rattle.theory.proofs.Links.{bounds, falling_le, tests}

-- ---- a record

-- i, kind, a and x are its words, and t the test of its individual
module _ (v m : List ℕ) (k : ℕ) {n i kind a x : ℕ} {t : Bool} (en : n ≡ individual_count m) (ei : i ≡ fact_owner m k) (et : t ≡ is_name n i)
    (ek : kind ≡ fact_kind m k) (ea : a ≡ fact_name m k) (ex : x ≡ fact_other m k) where
  owned : t ≡ is_name (individual_count m) (fact_owner m k)
  owned = rw (sym en, sym ei) et

  pub unknown : (kind ≡ 1 → ⊥) → (kind ≡ 2 → ⊥) → (kind ≡ 3 → ⊥) → false ≡ fact_fits v m k
  unknown n₁ n₂ n₃ = rw (sym owned, sym ek, ne_eqb kind 1 n₁, ne_eqb kind 2 n₂, ne_eqb kind 3 n₃, and-false t)

  -- the test of its name
  module _ {f : Bool} where
    pub member_fits : kind ≡ 1 → f ≡ is_name (class_count v) a → t && (f && eqb x 0) ≡ fact_fits v m k
    member_fits z e = rw (sym owned, sym ek ∙ z, sym ea, sym ex, e)

    pub edge_fits : {g : Bool} → kind ≡ 2 → f ≡ is_name (role_count v) a → g ≡ is_name n x → t && (f && g) ≡ fact_fits v m k
    edge_fits z e h = rw (sym owned, sym ek ∙ z, sym ea, sym ex, e, h, en)

    pub value_fits : kind ≡ 3 → f ≡ is_name (feature_count v) a → t && f ≡ fact_fits v m k
    value_fits z e = rw (sym owned, sym ek ∙ z, sym ea, e)

-- with the test of its link
pub link_sound : (v m : List ℕ) (k : ℕ) {last x : ℕ} {f g : Bool} → f ≡ fact_fits v m k → last ≡ last_of 5 m → x ≡ fact_next m k →
    g ≡ is_onward last k x → f && g ≡ sound_fact v m k
link_sound v m k ef el ex eg = rw (ef, eg, ex, el)

-- ---- the chain

-- the reader has come to record k
pub record ReadingFacts (v m : List ℕ) (k : ℕ) : Type 0 where
  pub reading : Reading (last_of 5 m) 33 (fact_next m) (sound_fact v m) (facts_refusal (length m) v m (first_fact m)) k

pub facts_start : {v m : List ℕ} {k : ℕ} → k ≡ first_fact m → first_fact m ≤ last_of 5 m → ReadingFacts v m k
facts_start {m = m} e h = record { reading = reading_starts {f = length m} e (h, omega (arith, falling_le (last_of 5 m) (first_fact m))) }

pub facts_end : {v m : List ℕ} {k : ℕ} → ReadingFacts v m k → k ≡ 0 → 0 ≡ facts_refusal (length m) v m (first_fact m)
facts_end w z = reading_ends w.reading z

-- t is the test of record k
module _ {v m : List ℕ} {k : ℕ} {t : Bool} (w : ReadingFacts v m k) (n : k ≡ 0 → ⊥) (e : t ≡ sound_fact v m k) where
  pub facts_stop : not t ≡ true → 33 ≡ facts_refusal (length m) v m (first_fact m)
  facts_stop h = reading_stops w.reading n (sym e ∙ not-true t h)

  module _ (h : not t ≡ false) where
    sound : sound_fact v m k ≡ true
    sound = sym e ∙ not-false t h

    onward : Onward (last_of 5 m) k (fact_next m k)
    onward = let u = simp tests at sound in u.1

    pub facts_fall : {x : ℕ} → x ≡ fact_next m k → falling (last_of 5 m) x < falling (last_of 5 m) k
    facts_fall p = reading_falls w.reading n sound onward p

    pub facts_on : {x : ℕ} → x ≡ fact_next m k → ReadingFacts v m x
    facts_on p = record { reading = reading_on w.reading n sound onward p }

-- ---- the whole

-- the header's words
pub headed : (m : List ℕ) {x last n a b c : ℕ} {t : Bool} → x ≡ first_fact m → last ≡ last_of 5 m → n ≡ individual_count m → t ≡ is_name most_individuals n →
    a ≡ get_or m 2 0 → b ≡ get_or m 3 0 → c ≡ get_or m 4 0 → leb x last && (t && (eqb a 0 && (eqb b 0 && eqb c 0))) ≡ headed_model m
headed m ex el en et ea eb ec = rw (ex, el, et, en, ea, eb, ec)

module _ (m : List ℕ) {s : Bool} (e : s ≡ headed_model m) (h : not s ≡ false) where
  right_header : headed_model m ≡ true
  right_header = sym e ∙ not-false s h

  pub first : first_fact m ≤ last_of 5 m
  first = let u = simp bounds at right_header in u.0

module _ (v m : List ℕ) {t : Bool} (e : t ≡ is_sized 5 most_model_words (length m)) where
  pub wrong_size : not t ≡ true → 31 ≡ model_refusal v m
  unfolding model_refusal
  wrong_size h = rw (sym e ∙ not-true t h)

  module _ (h : not t ≡ false) where
    right_size : is_sized 5 most_model_words (length m) ≡ true
    right_size = sym e ∙ not-false t h

    pub least : 5 ≤ length m
    least = let u = simp bounds at right_size in u.1.0

    pub wrong_header : {s : Bool} → s ≡ headed_model m → not s ≡ true → 32 ≡ model_refusal v m
    unfolding model_refusal
    wrong_header {s} f g = rw (right_size, sym f ∙ not-true s g)

    pub chained : {s : Bool} {r : ℕ} → s ≡ headed_model m → not s ≡ false → r ≡ facts_refusal (length m) v m (first_fact m) → r ≡ model_refusal v m
    unfolding model_refusal
    chained f g p = rw (right_size, right_header m f g) p
