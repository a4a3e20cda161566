-- What each function asks, and what it does.
use Rattle.std.specs.Prelude.{◌*◌, ◌+◌, ◌-◌, ◌<◌, ◌≤◌, ℕ, Bool, ◌&&◌, List, ◌++◌, ◌≡◌, eqb, ltb, get_or, length}
use Rattle.arrangement.specs.Insertion.{behind, deeper, insert_item}
use Rattle.entries.specs.Entries.{HasItems, Item, depth_at, item_at, items_in}
use Rattle.frames.specs.Rows.{put_at, row_at}
use Rattle.layout.specs.Tables.{HasEntries, parent_at}
use Rattle.meaning.specs.Limits.{most_records}

-- ---- depths

-- the rows of n individuals, each after its parent's, and a depth for each of them
pub record Listable (w : List ℕ) (n : ℕ) (ds : List ℕ) : Type 0 where
  pub rows : HasEntries n w
  pub before : (j : ℕ) → j < n → parent_at w j ≤ j
  pub room : n < length ds

-- an individual's conjuncts are one deeper than it
pub record Depths (w : List ℕ) (n : ℕ) (ds : List ℕ) : Type 0 where
  pub first : get_or ds 0 0 ≡ 0
  pub later : (j : ℕ) → j < n → get_or ds (j + 1) 0 ≡ get_or ds (parent_at w j) 0 + 1

-- ---- runs

-- the slice has every entry of the order, and one stands at place i
pub record Ready (w o : List ℕ) (i : ℕ) : Type 0 where
  pub items : HasItems w o
  pub inside : i < length o
  pub few : length o ≤ most_records

-- the run at i ends before r: those behind its first entry that are deeper
pub record RunEnds (w ds o : List ℕ) (i r : ℕ) : Type 0 where
  pub first : i < r
  pub within : r ≤ length o
  pub run : items_in w ds o (i + 1) r ≡ deeper (depth_at w ds (get_or o i 0)) (items_in w ds o (i + 1) (length o))
  pub left : items_in w ds o r (length o) ≡ behind (depth_at w ds (get_or o i 0)) (items_in w ds o (i + 1) (length o))

abbrev pub is_next : List ℕ → List ℕ → List ℕ → ℕ → ℕ → Bool
is_next w ds o at d = ltb at (length o) && eqb (depth_at w ds (get_or o at 0)) d

-- what becomes of the order behind place a when the item there goes to its place
abbrev pub inserted : List ℕ → List ℕ → List ℕ → ℕ → List Item
inserted w ds o a = insert_item (item_at w ds (get_or o a 0)) (items_in w ds o (a + 1) (length o))

-- a run that is equal to the one from a to before b stands at the place
pub record StandsAt (w ds o : List ℕ) (a b at : ℕ) : Type 0 where
  pub low : b ≤ at
  pub high : at ≤ length o
  pub standing : inserted w ds o a ≡ items_in w ds o b (length o)

-- the run from a to before b belongs in front of the place
pub record BelongsAt (w ds o : List ℕ) (a b at : ℕ) : Type 0 where
  pub low : b ≤ at
  pub high : at ≤ length o
  pub missing : inserted w ds o a ≡ items_in w ds o b at ++ (items_in w ds o a b ++ items_in w ds o at (length o))

-- ---- moving

pub record Rotatable (o : List ℕ) (a b c : ℕ) : Type 0 where
  pub first : a ≤ b
  pub second : b ≤ c
  pub within : c ≤ length o
  pub few : length o ≤ most_records

unfoldable pub rotated : List ℕ → ℕ → ℕ → ℕ → List ℕ
rotated o a b c = put_at o a (row_at (c - b) o b ++ row_at (b - a) o a)

-- the item at place top has gone to its place; the order starts at r
pub record Settled (w ds : List ℕ) (top : ℕ) (o o' : List ℕ) (r : ℕ) : Type 0 where
  pub items : items_in w ds o' r (length o') ≡ inserted w ds o top
  pub low : top ≤ r
  pub high : r ≤ length o'
  pub known : (j : ℕ) → get_or o' j 0 < 2 * most_records
  pub same : length o' ≡ length o
