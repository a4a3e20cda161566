-- What the walk leaves behind: the records reached so far as bits, and a fault, and when they agree with the definition's walk.
use Rattle.std.specs.Prelude.{◌-◌, ◌/◌, ◌≤◌, suc, ℕ, cond, List, ◌≡◌, eqb, length}
use Rattle.meaning.specs.Limits.{most_depth, most_records}
use Rattle.meaning.specs.Lists.{any}
use Rattle.meaning.specs.Policy.{Walk, fault, reached, sound_record, walk}
use Rattle.meaning.specs.Records.{Enough, last_of}
use Rattle.words.specs.Sets.{in_set}

-- how many words have a bit for each record
abbrev pub trail_words : ℕ
trail_words = most_records / 32

-- SPECIFICATION 4.4, the fault at one record: 7, reached before, by the bits s; 6, not sound; 8, at depth 17. 0 is none
unfoldable pub fault_at : List ℕ → List ℕ → ℕ → ℕ → List ℕ → ℕ
fault_at v p depth k s = cond (in_set s k) 7 (cond (sound_record v p depth k) (cond (eqb depth (suc most_depth)) 8 0) 6)

-- how many levels a policy may have: the header's chain, and those of conjuncts
abbrev pub levels : ℕ
levels = suc most_depth

-- how deep a chain is where so many levels may still stand, its own among them
abbrev pub depth_at : ℕ → ℕ
depth_at left = levels - left

-- the policy has a header and no more records than it may, and record first is one of them, or 0
abbrev pub Walkable : List ℕ → ℕ → ℕ → Type 0
Walkable p left first = (6 ≤ length p) × (last_of 6 p ≤ most_records) × (first ≤ last_of 6 p) × (left ≤ levels)

-- the words' bits are the records of the list
pub record Marks (words seen : List ℕ) : Type 0 where
  pub whole : length words ≡ trail_words
  pub same : (j : ℕ) → 1 ≤ j → j ≤ most_records → in_set words j ≡ any (eqb j) seen

-- the words' bits and the number are what a walk ends with: the records reached and 0, or the fault
pub data Arrived (words : List ℕ) (n : ℕ) : Walk → Type 0 where
  going : {seen : List ℕ} → n ≡ 0 → Marks words seen → Arrived words n (reached seen)
  stopped : (n ≡ 0 → ⊥) → Arrived words n (fault n)

-- with the bits s and so many levels left, the walk from record k on ends with the bits s' and the number n: for every fuel that is
-- enough, and every list that s is of
pub record Follows (v p : List ℕ) (left k : ℕ) (s s' : List ℕ) (n : ℕ) : Type 0 where
  pub arrives : (f : ℕ) (seen : List ℕ) → Enough (last_of 6 p) f k → Marks s seen → Arrived s' n (walk f v p (depth_at left) k seen)
