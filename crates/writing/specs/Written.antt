-- The words that items are written as: an item's record, its individual's classes behind it, then those below it.
use Rattle.std.specs.Prelude.{◌*◌, ◌+◌, ◌≤◌, suc, ℕ, Bool, ◌||◌, cond, List, [], ◌∷◌, ◌≡◌, eqb, ltb, length}
use Rattle.entries.specs.Entries.{HasItems, Item, item_at, items_of}
use Rattle.meaning.specs.Limits.{most_classes, most_depth, most_records}
use Rattle.meaning.specs.Lists.{any}
use Rattle.meaning.specs.PolicyWords.{record_words}
use Rattle.meaning.specs.Records.{link_to}

-- the first where there are classes, else the second
abbrev pub where_any : List ℕ → ℕ → ℕ → ℕ
where_any [] x none = none
where_any (c ∷ cs) x none = x

-- ---- how many, and how deep

-- how many records an item is written as
abbrev pub record_count : Item → ℕ
record_count x = suc (length x.classes)

abbrev pub records_in : List Item → ℕ
records_in [] = 0
records_in (x ∷ l) = record_count x + records_in l

-- the depth of the deepest of them
abbrev pub deepest : Item → ℕ
deepest x = where_any x.classes (suc x.fields.depth) x.fields.depth

abbrev pub is_deep : Item → Bool
is_deep x = ltb most_depth (deepest x)

-- 43
unfoldable pub are_too_long : List Item → Bool
are_too_long l = ltb most_records (records_in l) || any is_deep l

-- ---- the words

-- a link to record k, where an item deeper than d follows
abbrev pub link_below : ℕ → ℕ → List Item → ℕ
link_below k d [] = 0
link_below k d (x ∷ l) = cond (ltb d x.fields.depth) k 0

-- a link to the next item of depth d of the same individual, where the items are written from record k on
abbrev pub link_beside : ℕ → ℕ → List Item → ℕ
link_beside k d [] = 0
link_beside k d (x ∷ l) =
    let further = link_beside (k + record_count x) d l in
    cond (ltb d x.fields.depth) further (cond (eqb x.fields.depth d) k 0)

-- the records of classes from record k on, the last one with a link to what follows
abbrev pub class_records : ℕ → List ℕ → ℕ → List ℕ → List ℕ
class_records k [] last rest = rest
class_records k (c ∷ cs) last rest = record_words 1 c 0 0 0 (where_any cs (suc k) last) (class_records (suc k) cs last rest)

-- a term's record is of kind 5
abbrev pub kind_of : Item → ℕ
kind_of x = cond (eqb x.fields.depth 0) 5 x.fields.kind

-- the records of an item in front of others, from record k on
unfoldable pub first_records : ℕ → Item → List Item → List ℕ → List ℕ
first_records k x l rest =
    let after = k + record_count x in
    let below = link_below after x.fields.depth l in
    let child = where_any x.classes (suc k) below in
    let beside = link_beside after x.fields.depth l in
    record_words (kind_of x) x.fields.name x.fields.lo x.fields.hi child beside (class_records (suc k) x.classes below rest)

-- the records of items from record k on
unfoldable pub item_records : ℕ → List Item → List ℕ
item_records k [] = []
item_records k (x ∷ l) = first_records k x l (item_records (k + record_count x) l)

-- the header and the records
unfoldable pub item_words : List Item → List ℕ
item_words l = record_words (link_to 1 l) 0 0 0 0 0 (item_records 1 l)

-- ---- what the functions ask and say

-- the slice has every entry, and they are few
pub record Ordered (w o : List ℕ) : Type 0 where
  pub items : HasItems w o
  pub few : length o ≤ most_records

-- there is room for n records from record k on, and they are no more than a policy may have
pub record RoomFrom (k n : ℕ) (out : List ℕ) : Type 0 where
  pub long : 6 * (n + k) ≤ length out
  pub few : n + k ≤ most_records + 1

-- there is room for the header and the records of the entries, and they are no more than a policy may have
pub record Writable (w ds o out : List ℕ) : Type 0 where
  pub ordered : Ordered w o
  pub long : 6 * (records_in (items_of w ds o) + 1) ≤ length out
  pub few : records_in (items_of w ds o) ≤ most_records

-- n is how many records entry e is written as
pub record CountsEntry (w : List ℕ) (e n : ℕ) : Type 0 where
  pub says : (ds : List ℕ) → n ≡ record_count (item_at w ds e)
  pub few : n ≤ most_classes + 1
