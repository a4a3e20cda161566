-- The items of conjuncts: an item for each role and each constraint, below one another as they stand, an individual's classes with the
-- role that reaches it.
use Rattle.std.specs.Prelude.{suc, ℕ, Bool, false, true, List, [], ◌++◌, ◌∷◌, map, T}
use Rattle.entries.specs.Entries.{Item, constraint_fields, role_fields}
use Rattle.meaning.specs.Intervals.{Constraint}
use Rattle.meaning.specs.Lists.{flat_map}
use Rattle.meaning.specs.NormalForm.{Successors, none, successor}
use Rattle.meaning.specs.Policy.{Chain, Policy, class, end, impossible, interval, some}
use Rattle.spelling.specs.Order.{sorted}
use Rattle.spelling.specs.Spelling.{Conjunct, is_in, reaches, within}

abbrev pub role_item : ℕ → ℕ → List ℕ → Item
role_item d r cs = record { fields = role_fields r d; classes = cs }

abbrev pub constraint_item : ℕ → ℕ → ℕ → ℕ → Item
constraint_item d f lo hi = record { fields = constraint_fields f lo hi d; classes = [] }

-- ---- of conjuncts in order

-- the classes in front
abbrev pub classes_of : Chain → List ℕ
classes_of end = []
classes_of (class a next) = a ∷ classes_of next
classes_of (impossible next) = []
classes_of (some r child next) = []
classes_of (interval f lo hi next) = []

abbrev pub chain_items : ℕ → Chain → List Item
chain_items d end = []
chain_items d (class a next) = chain_items d next
chain_items d (impossible next) = chain_items d next
chain_items d (some r child next) = role_item d r (classes_of child) ∷ (chain_items (suc d) child ++ chain_items d next)
chain_items d (interval f lo hi next) = constraint_item d f lo hi ∷ chain_items d next

-- the run of a conjunct at depth d
abbrev pub run_of : ℕ → Conjunct → List Item
run_of d (is_in a) = []
run_of d (within f lo hi) = constraint_item d f lo hi ∷ []
run_of d (reaches r child) = role_item d r (classes_of child) ∷ chain_items (suc d) child

abbrev pub runs_of : ℕ → List Conjunct → List Item
runs_of d l = flat_map (run_of d) l

-- a policy's terms are the roles 0 of one individual
abbrev pub terms : Policy → List Conjunct
terms P = map (reaches 0) P

abbrev pub policy_items : Policy → List Item
policy_items P = runs_of 0 (terms P)

-- nothing is impossible, and the classes of each individual stand in front of its other conjuncts; b tells whether classes may come yet
abbrev pub Fronted : Bool → Chain → Type 0
Fronted b end = Unit {0}
Fronted b (class a next) = T b × Fronted true next
Fronted b (impossible next) = ⊥
Fronted b (some r child next) = Fronted true child × Fronted false next
Fronted b (interval f lo hi next) = Fronted false next

-- ---- of the individuals of a normal form, as they stand

abbrev pub class_key : ℕ → List ℕ
class_key c = c ∷ []

abbrev pub listed_item : ℕ → Constraint → Item
listed_item d s = constraint_item d s.feature s.lo s.hi

-- each individual, its constraints, and those below it
abbrev pub items_below : ℕ → Successors → List Item
items_below d none = []
items_below d (successor r n under next) =
    role_item d r (sorted class_key n.classes) ∷ (map (listed_item (suc d)) n.constraints ++ (items_below (suc d) under ++ items_below d next))
