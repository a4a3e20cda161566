-- The cuts between the spans of a policy's records, and a row of records for each.
use Rattle.std.specs.Prelude.{◌*◌, ◌-◌, ◌<◌, ◌≤◌, ℕ, Bool, ◌&&◌, ◌||◌, cond, List, [], ◌∷◌, ◌≡◌, eqb, leb, ltb, get_or, length, take}
use Rattle.frames.specs.Rows.{row_at}
use Rattle.keys.specs.Keys.{Ranked, key_of}
use Rattle.meaning.specs.Intervals.{is_within}
use Rattle.meaning.specs.Limits.{most_records}
use Rattle.meaning.specs.Lists.{◌∈◌}
use Rattle.meaning.specs.Policy.{hi_of, kind_of, lo_of, name_of}
use Rattle.meaning.specs.Records.{Name}
use Rattle.meaning.specs.Splitting.{Sorted}
use Rattle.satisfaction.specs.Places.{put_in, record_words}
use Rattle.words.specs.Sets.{in_set}

-- how many cuts a batch of records may have
abbrev pub cut_count : ℕ
cut_count = 512

-- ---- spans

abbrev pub low_key : List ℕ → ℕ → ℕ
low_key p k = key_of (name_of p k) (lo_of p k)

abbrev pub high_key : List ℕ → ℕ → ℕ
high_key p k = key_of (name_of p k) (hi_of p k)

-- record k is a feature's, and its span holds the key
abbrev pub spans : List ℕ → ℕ → ℕ → Bool
spans p k key = eqb (kind_of p k) 4 && is_within (low_key p k) (high_key p k) key

-- one of the records after the first up to the last
abbrev pub is_among : ℕ → ℕ → ℕ → Bool
is_among first last k = ltb first k && leb k last

abbrev pub spans_among : List ℕ → ℕ → ℕ → ℕ → ℕ → Bool
spans_among p first last k key = is_among first last k && spans p k key

-- ---- cuts

abbrev pub cuts_at : List ℕ → ℕ → List ℕ
cuts_at p k = cond (eqb (kind_of p k) 4) ((low_key p k - 1) ∷ (high_key p k ∷ [])) []

pub record Cuttable (first last : ℕ) (e : List ℕ) : Type 0 where
  pub order : first ≤ last
  pub few : last ≤ most_records
  pub room : 2 * (last - first) ≤ length e

-- the first n words rise, and have the cuts of the records after the first up to the last
pub record AllCut (p : List ℕ) (first last : ℕ) (e : List ℕ) (n : ℕ) : Type 0 where
  pub few : n ≤ 2 * (last - first)
  pub rising : Sorted (take n e)
  pub low : (k : ℕ) → first < k → k ≤ last → kind_of p k ≡ 4 → low_key p k - 1 ∈ take n e
  pub high : (k : ℕ) → first < k → k ≤ last → kind_of p k ≡ 4 → high_key p k ∈ take n e

-- ---- rows

abbrev pub row_place : ℕ → ℕ
row_place r = r * record_words

abbrev pub row_of : List ℕ → ℕ → List ℕ
row_of c r = row_at record_words c (row_place r)

-- row r has record k also where its span, from low to high, holds the row's cut
abbrev pub row_marked : List ℕ → ℕ → ℕ → ℕ → ℕ → ℕ → List ℕ
row_marked c r cut low high k = cond (is_within low high cut) (put_in record_words c (row_place r) k) c

pub record SpanMarkable (e c : List ℕ) (n k : ℕ) : Type 0 where
  pub cuts : n ≤ length e
  pub room : row_place n ≤ length c
  pub named : Name most_records k

-- the rows of the first n cuts have record k also where its span holds the cut
pub record SpanMarked (p e : List ℕ) (n k : ℕ) (c c' : List ℕ) : Type 0 where
  pub tells : (r : ℕ) → r < n → in_set (row_of c' r) k ≡ in_set (row_of c r) k || spans p k (get_or e r 0)
  pub others : (r d : ℕ) → r < n → (d ≡ k → ⊥) → in_set (row_of c' r) d ≡ in_set (row_of c r) d

pub record SpansMarkable (e c : List ℕ) (n first last : ℕ) : Type 0 where
  pub cuts : n ≤ length e
  pub room : row_place n ≤ length c
  pub order : first ≤ last
  pub few : last ≤ most_records

-- the rows of the first n cuts have the records, after the first up to the last, whose span holds the cut
pub record Rowed (p : List ℕ) (first last : ℕ) (e c : List ℕ) (n : ℕ) : Type 0 where
  pub rows : (r k : ℕ) → r < n → in_set (row_of c r) k ≡ spans_among p first last k (get_or e r 0)

-- the row of the first cut at or above a key has the records that the test names for the key; above all cuts there is none
pub record Tabled (test : ℕ → ℕ → Bool) (e c : List ℕ) (n : ℕ) : Type 0 where
  pub tells : (key r k : ℕ) → Ranked e n key r → ltb r n && in_set (row_of c r) k ≡ test k key
