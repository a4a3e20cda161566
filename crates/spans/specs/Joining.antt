-- Rows of a slice beside the work slice, joined into the individuals' sets of records; and what a fact hands to these.
use Rattle.std.specs.Prelude.{◌+◌, ◌<◌, ◌≤◌, ℕ, Bool, ◌||◌, List, ◌≡◌, get_or, length}
use Rattle.std.specs.Int.Bits.{bit_and, bit_or}
use Rattle.frames.specs.Frames.{Only, Span}
use Rattle.meaning.specs.Limits.{most_individuals, most_records}
use Rattle.meaning.specs.Lists.{any}
use Rattle.meaning.specs.Model.{Fact, facts_of}
use Rattle.meaning.specs.Records.{Name}
use Rattle.satisfaction.specs.Places.{heights_at, record_words, records_of, sets_at}
use Rattle.words.specs.Sets.{in_set}

-- the words of the set of what is in both sets
pub record Met (from mask : ℕ) (c v : List ℕ) : Type 0 where
  pub words : (i : ℕ) → i < record_words → get_or v i 0 ≡ bit_and (get_or c (from + i) 0) (get_or c (mask + i) 0)

pub record Joinable (at from mask : ℕ) (w c : List ℕ) : Type 0 where
  pub room : at + record_words ≤ length w
  pub column : from + record_words ≤ length c
  pub masked : mask + record_words ≤ length c

-- the first n words have the bits of both sets too
pub record Joined (n at from mask : ℕ) (c w w' : List ℕ) : Type 0 where
  pub only : Only (Span at (at + record_words)) w w'
  pub words : (i : ℕ) → i < n → get_or w' (at + i) 0 ≡ bit_or (get_or w (at + i) 0) (bit_and (get_or c (from + i) 0) (get_or c (mask + i) 0))
  pub rest : (i : ℕ) → n ≤ i → get_or w' (at + i) 0 ≡ get_or w (at + i) 0

-- individual i has record k also where the fact hands it over
pub record Handed (hands : ℕ → ℕ → Fact → Bool) (x : Fact) (w w' : List ℕ) : Type 0 where
  pub only : Only (Span sets_at heights_at) w w'
  pub bits : (i k : ℕ) → Name most_individuals i → Name most_records k → in_set (records_of w' i) k ≡ in_set (records_of w i) k || hands i k x

-- or some fact of the model
pub record AllHanded (hands : ℕ → ℕ → Fact → Bool) (m w w' : List ℕ) : Type 0 where
  pub only : Only (Span sets_at heights_at) w w'
  pub bits : (i k : ℕ) → Name most_individuals i → Name most_records k →
      in_set (records_of w' i) k ≡ in_set (records_of w i) k || any (hands i k) (facts_of m)
