-- An item put in front of a list of runs: with those below it, it goes to its place among the runs of its own depth.
use Rattle.std.specs.Prelude.{suc, zero, ℕ, cond, List, [], ◌++◌, ◌∷◌, eqb, ltb, length}
use Rattle.entries.specs.Entries.{Item, run_key}
use Rattle.entries.specs.Order.{order_of}
use Rattle.std.specs.declared.cmp.Ordering.{Ordering}
use Rattle.std.specs.declared.cmp.Ordering.TheVariants.{Equal, Greater, Less}

-- the items in front that are deeper than d, and those behind them
abbrev pub deeper : ℕ → List Item → List Item
deeper d [] = []
deeper d (x ∷ l) = cond (ltb d x.fields.depth) (x ∷ deeper d l) []

abbrev pub behind : ℕ → List Item → List Item
behind d [] = []
behind d (x ∷ l) = cond (ltb d x.fields.depth) (behind d l) (x ∷ l)

-- one of three
abbrev pub pick : {A : Type 0} → Ordering → A → A → A → A
pick Less x y z = x
pick Equal x y z = y
pick Greater x y z = z

-- a run of depth d to its place among those in front of which it stands, at most so many: in front of the first that it goes before; it is
-- dropped where it stands already
abbrev pub insert_run : ℕ → ℕ → List Item → List Item → List Item
insert_run zero d run l = run ++ l
insert_run (suc most) d run [] = run
insert_run (suc most) d run (y ∷ l) =
    let first = y ∷ deeper d l in
    let further = first ++ insert_run most d run (behind d l) in
    cond (eqb y.fields.depth d) (pick (order_of (run_key run) (run_key first)) (run ++ (y ∷ l)) (y ∷ l) further) (run ++ (y ∷ l))

-- the run of an item that stands in front of a list
abbrev pub insert_item : Item → List Item → List Item
insert_item x l = let d = x.fields.depth in insert_run (length (behind d l)) d (x ∷ deeper d l) (behind d l)

-- each item of a list, the last one first
abbrev pub arranged : List Item → List Item
arranged [] = []
arranged (x ∷ l) = insert_item x (arranged l)
