-- Of each individual of a term: the lowest dial at or below it, and its successors with a dial at or below, one linked to the next.
use Rattle.std.specs.Prelude.{◌*◌, ◌+◌, ◌<◌, ◌≤◌, min, pred, suc, ℕ, cond, List, Option, None, Some, ◌≡◌, eqb, get_or, length, set}
use Rattle.layout.specs.Nesting.{Nested}
use Rattle.layout.specs.Tables.{Standing, parent_at}
use Rattle.layout.specs.declared.Tables.{Tables}
use Rattle.meaning.specs.Limits.{most_records}

-- ---- the words: three tables with room for the individuals 0, the root's parent, to 512

-- the lowest dial at or below individual x, plus 1; 0 for none
abbrev pub slot_of : List ℕ → ℕ → ℕ
slot_of c x = get_or c x 0

-- the number that a word names, where 0 names none
abbrev pub named : ℕ → Option ℕ
named n = cond (eqb n 0) None (Some n)

-- the first successor of individual x with a dial at or below, or 0
abbrev pub under_of : List ℕ → ℕ → ℕ
under_of c x = get_or c (most_records + 1 + x) 0

-- the next such one beside individual y, with the same parent, or 0
abbrev pub beside_of : List ℕ → ℕ → ℕ
beside_of c y = get_or c (2 * (most_records + 1) + y) 0

abbrev pub carriers_end : ℕ
carriers_end = 3 * (most_records + 1)

-- the slice has the numbers of individual x
abbrev pub HasCarrier : ℕ → List ℕ → Type 0
HasCarrier x c = (x ≤ most_records) × (carriers_end ≤ length c)

-- ---- the lists

-- individual y, of n, is a successor of individual x with a dial at or below it
pub record Carrier (c w : List ℕ) (n x y : ℕ) : Type 0 where
  pub inside : pred y < n
  pub parent : parent_at w (pred y) ≡ x
  pub noted : slot_of c y ≡ 0 → ⊥

-- y is the individual of row j or one before it
pub record UpTo (j y : ℕ) : Type 0 where
  pub some : y ≡ 0 → ⊥
  pub within : y ≤ suc j

-- the lists of a term's individuals with a dial at or below; nothing is asked of which these are, but that the lists have them all
pub record Listed (c w : List ℕ) (n : ℕ) : Type 0 where
  pub few : (x : ℕ) → x ≤ n → slot_of c x ≤ 16
  pub child : (x : ℕ) → x ≤ n → (under_of c x ≡ 0 → ⊥) → Carrier c w n x (under_of c x)
  pub first : (j : ℕ) → j < n → (slot_of c (suc j) ≡ 0 → ⊥) → UpTo j (under_of c (parent_at w j))
  pub sibling : (j : ℕ) → j < n → (slot_of c (suc j) ≡ 0 → ⊥) → (beside_of c (suc j) ≡ 0 → ⊥) →
      (suc j < beside_of c (suc j)) × Carrier c w n (parent_at w j) (beside_of c (suc j))
  pub next : (i j : ℕ) → i < j → j < n → (slot_of c (suc i) ≡ 0 → ⊥) → (slot_of c (suc j) ≡ 0 → ⊥) → parent_at w i ≡ parent_at w j →
      UpTo j (beside_of c (suc i))

-- ---- how they are made

-- the tables are a term's, and the dials are some of its constraints
pub record Listable (dials w : List ℕ) (t : Tables) : Type 0 where
  pub standing : Standing w t
  pub nested : Nested w t
  pub inside : (d : ℕ) → d < length dials → get_or dials d 0 < t.constraints
  pub few : length dials ≤ 16

-- the dials may be noted, and no individual is in a list
pub record Unlisted (c : List ℕ) (n : ℕ) : Type 0 where
  pub room : carriers_end ≤ length c
  pub few : (x : ℕ) → x ≤ n → slot_of c x ≤ 16
  pub none : (x : ℕ) → x ≤ n → under_of c x ≡ 0

-- the lower of two slots
unfoldable pub lower_slot : ℕ → ℕ → ℕ
lower_slot a b = cond (eqb a 0) b (min a b)

-- individual y is put before the others in the list of individual p
unfoldable pub linked : ℕ → ℕ → List ℕ → List ℕ
linked p y c =
    let slot = lower_slot (slot_of c p) (slot_of c y) in
    set (set (set c (2 * (most_records + 1) + y) (under_of c p)) (most_records + 1 + p) y) p slot
