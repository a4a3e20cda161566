-- What the entries stand for, by the tables of the work slice, and the numbers by which their runs compare.
use Rattle.std.specs.Ordering.{ordering_then}
use Rattle.std.specs.Prelude.{◌*◌, ◌-◌, ◌<◌, ◌≤◌, suc, ℕ, Bool, cond, List, [], ◌∷◌, map, ◌≡◌, eqb, ltb, drop, get_or, length, replicate, take}
use Rattle.std.specs.declared.cmp.Ordering.{Ordering}
use Rattle.std.specs.declared.cmp.Ordering.TheVariants.{Equal}
use Rattle.entries.specs.declared.Fields.{Fields}
use Rattle.entries.specs.Order.{Continues, order_of}
use Rattle.layout.specs.Places.{tables_end}
use Rattle.layout.specs.Tables.{constraint_at, holder_at, parent_at, role_at, set_at}
use Rattle.meaning.specs.Limits.{most_records}
use Rattle.words.specs.Members.{members}
use Rattle.words.specs.Rows.{class_words}
use Rattle.words.specs.Sets.{in_set}

-- ---- what entry e stands for

-- the slice has an entry e
pub record HasItem (e : ℕ) (w : List ℕ) : Type 0 where
  pub known : e < 2 * most_records
  pub long : tables_end ≤ length w

-- the slice has every entry of the order o
pub record HasItems (w o : List ℕ) : Type 0 where
  pub long : tables_end ≤ length w
  pub known : (j : ℕ) → get_or o j 0 < 2 * most_records

-- an entry's record, and the classes that are written behind it
pub record Item : Type 0 where
  pub fields : Fields
  pub classes : List ℕ

-- the individual that it is a conjunct of
unfoldable pub owner_at : List ℕ → ℕ → ℕ
owner_at w e = cond (ltb e most_records) (parent_at w e) (holder_at w (e - most_records))

-- ds has for each individual the depth of its conjuncts
unfoldable pub depth_at : List ℕ → List ℕ → ℕ → ℕ
depth_at w ds e = get_or ds (owner_at w e) 0

abbrev pub role_fields : ℕ → ℕ → Fields
role_fields r d = record { kind = 3; name = r; lo = 0; hi = 0; depth = d }

abbrev pub constraint_fields : ℕ → ℕ → ℕ → ℕ → Fields
constraint_fields f lo hi d = record { kind = 4; name = f; lo = lo; hi = hi; depth = d }

unfoldable pub fields_at : List ℕ → List ℕ → ℕ → Fields
fields_at w ds e =
    let s = constraint_at w (e - most_records) in
    cond (ltb e most_records) (role_fields (role_at w e) (depth_at w ds e)) (constraint_fields s.feature s.lo s.hi (depth_at w ds e))

unfoldable pub classes_at : List ℕ → ℕ → List ℕ
classes_at w e = cond (ltb e most_records) (set_at w e) (replicate class_words 0)

unfoldable pub item_at : List ℕ → List ℕ → ℕ → Item
item_at w ds e = record { fields = fields_at w ds e; classes = members (classes_at w e) }

-- the items of entries
abbrev pub items_of : List ℕ → List ℕ → List ℕ → List Item
items_of w ds l = map (item_at w ds) l

-- those of the order's from place a to before b
abbrev pub items_in : List ℕ → List ℕ → List ℕ → ℕ → ℕ → List Item
items_in w ds o a b = items_of w ds (take (b - a) (drop a o))

-- ---- the numbers by which they compare

abbrev pub name_fields : Fields → List ℕ → List ℕ
name_fields f rest = f.name ∷ (f.lo ∷ (f.hi ∷ (f.depth ∷ rest)))

abbrev pub listed : Fields → List ℕ → List ℕ
listed f rest = f.kind ∷ name_fields f rest

-- the records of classes at depth d
abbrev pub class_fields : ℕ → List ℕ → List ℕ → List ℕ
class_fields d [] rest = rest
class_fields d (c ∷ cs) rest = 1 ∷ (c ∷ (0 ∷ (0 ∷ (d ∷ class_fields d cs rest))))

-- the records of items, one after another
abbrev pub run_fields : List Item → List ℕ
run_fields [] = []
run_fields (x ∷ l) = listed x.fields (class_fields (suc x.fields.depth) x.classes (run_fields l))

-- the records behind the first item's own
abbrev pub rest_fields : List Item → List ℕ
rest_fields [] = []
rest_fields (x ∷ l) = class_fields (suc x.fields.depth) x.classes (run_fields l)

-- of one individual the constraints stand before the roles
abbrev pub rank_of : ℕ → ℕ
rank_of kind = cond (eqb kind 4) 2 3

abbrev pub sibling_fields : Fields → List ℕ → List ℕ
sibling_fields f rest = rank_of f.kind ∷ name_fields f rest

-- what the run of an entry goes by among those of one individual
abbrev pub run_key : List Item → List ℕ
run_key [] = []
run_key (x ∷ l) = sibling_fields x.fields (rest_fields (x ∷ l))

-- ---- what the functions say

-- the words before a place are the same
abbrev pub AlikeTo : List ℕ → List ℕ → ℕ → Type 0
AlikeTo s t n = (j : ℕ) → j < n → get_or s j 0 ≡ get_or t j 0

abbrev pub HasSame : List ℕ → List ℕ → Type 0
HasSame s t = (c : ℕ) → in_set s c ≡ in_set t c

-- d is the least number that is in one set alone
pub record FirstDifference (s t : List ℕ) (d : ℕ) : Type 0 where
  pub before : (c : ℕ) → c < d → in_set s c ≡ in_set t c
  pub at : in_set s d ≡ in_set t d → ⊥

-- the records of two sets of classes compare so, whatever the records behind them are
pub record ComparesClasses (s t : List ℕ) (more other : Bool) (r : Ordering) : Type 0 where
  pub says : (d : ℕ) (l m : List ℕ) → Continues more l → Continues other m →
      order_of (class_fields d (members s) l) (class_fields d (members t) m) ≡ ordering_then r (order_of l m)

-- the slice has every entry of two runs, which have one each
pub record Comparable (w x y : List ℕ) : Type 0 where
  pub first : HasItems w x
  pub second : HasItems w y
  pub some : 0 < length x
  pub others : 0 < length y

-- their first entries stand at one depth
abbrev pub Beside : List ℕ → List ℕ → List ℕ → List ℕ → Type 0
Beside w ds x y = (fields_at w ds (get_or x 0 0)).depth ≡ (fields_at w ds (get_or y 0 0)).depth

-- r compares the records of the first entries, and says the same only where both runs end, or both go on at one depth
pub record ComparesNext (w ds x y : List ℕ) (r : Ordering) : Type 0 where
  pub says : order_of (run_fields (items_of w ds x)) (run_fields (items_of w ds y))
      ≡ ordering_then r (order_of (rest_fields (items_of w ds x)) (rest_fields (items_of w ds y)))
  pub onward : r ≡ Equal → 0 < length x → (0 < length y) × Beside w ds x y
  pub back : r ≡ Equal → 0 < length y → 0 < length x

-- r compares the records from the classes of the first entries up to the next entries' own
pub record Steps (w ds x y : List ℕ) (r : Ordering) : Type 0 where
  pub says : order_of (rest_fields (items_of w ds x)) (rest_fields (items_of w ds y))
      ≡ ordering_then r (order_of (rest_fields (items_of w ds (drop 1 x))) (rest_fields (items_of w ds (drop 1 y))))
  pub onward : r ≡ Equal → 0 < length (drop 1 x) → (0 < length (drop 1 y)) × Beside w ds (drop 1 x) (drop 1 y)
  pub back : r ≡ Equal → 0 < length (drop 1 y) → 0 < length (drop 1 x)
