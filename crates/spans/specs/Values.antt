-- The records of features: which individuals have a value of one, and what a walk over the facts makes of them.
use Rattle.std.specs.Prelude.{◌*◌, ◌-◌, ◌≤◌, ℕ, Bool, ◌&&◌, ◌||◌, false, List, ◌≡◌, eqb, length}
use Rattle.frames.specs.Frames.{Only, Span}
use Rattle.keys.specs.Keys.{key_of}
use Rattle.meaning.specs.Intervals.{is_within}
use Rattle.meaning.specs.Limits.{most_individuals, most_records, work_size}
use Rattle.meaning.specs.Lists.{any}
use Rattle.meaning.specs.Model.{Fact, edge, facts_of, member, value}
use Rattle.meaning.specs.Policy.{hi_of, kind_of, lo_of, name_of}
use Rattle.meaning.specs.Records.{Name}
use Rattle.model.specs.Chain.{Readable, Stated}
use Rattle.satisfaction.specs.Classes.{owner_of}
use Rattle.satisfaction.specs.Places.{heights_at, records_of, sets_at}
use Rattle.spans.specs.Cuts.{Tabled, cut_count, is_among, row_place}
use Rattle.spans.specs.Joining.{Handed}
use Rattle.words.specs.Sets.{in_set}

-- kind 4: feature a has a value in lo..hi
abbrev pub value_within : ℕ → ℕ → ℕ → Fact → Bool
value_within a lo hi (member b i) = false
value_within a lo hi (edge r i j) = false
value_within a lo hi (value f i v) = eqb a f && is_within lo hi v

-- a fact shows a value of individual i that record k asks for
abbrev pub valued : List ℕ → List ℕ → ℕ → ℕ → Bool
valued p m k i = any (λ x. eqb i (owner_of x) && value_within (name_of p k) (lo_of p k) (hi_of p k) x) (facts_of m)

-- ---- one fact

-- a value of individual i, and the test names record k for its key
abbrev pub shows : (ℕ → ℕ → Bool) → ℕ → ℕ → Fact → Bool
shows test i k (member a o) = false
shows test i k (edge r o j) = false
shows test i k (value f o v) = eqb i o && test k (key_of f v)

pub record ValueMarkable (m w c e : List ℕ) (n f : ℕ) : Type 0 where
  pub stated : Stated m f
  pub readable : Readable m
  pub long : work_size ≤ length w
  pub room : row_place n ≤ length c
  pub cuts : n ≤ length e

-- whatever the rows tell of a key
pub record ValueMarked (e c : List ℕ) (n : ℕ) (x : Fact) (w w' : List ℕ) : Type 0 where
  pub hands : (test : ℕ → ℕ → Bool) → Tabled test e c n → Handed (shows test) x w w'

-- ---- all facts

-- records up to the last can be put into the sets, with rows in a slice
pub record Markable (m w c : List ℕ) (last : ℕ) : Type 0 where
  pub readable : Readable m
  pub long : work_size ≤ length w
  pub room : row_place cut_count ≤ length c
  pub few : last ≤ most_records

-- and those after the first at once
pub record Batched (m w c e : List ℕ) (first last : ℕ) : Type 0 where
  pub markable : Markable m w c last
  pub order : first ≤ last
  pub cuts : cut_count ≤ length e
  pub batch : 2 * (last - first) ≤ cut_count

-- an individual has a feature's record, of those after the first up to the last, also where a fact shows a value of it
pub record ValuesMarked (p m : List ℕ) (first last : ℕ) (w w' : List ℕ) : Type 0 where
  pub only : Only (Span sets_at heights_at) w w'
  pub bits : (i k : ℕ) → Name most_individuals i → Name most_records k →
      in_set (records_of w' i) k ≡ in_set (records_of w i) k || (is_among first last k && (eqb (kind_of p k) 4 && valued p m k i))
