-- SPECIFICATION 7.1 to 7.3: X, the pieces of a constraint, and the combinations of a normal form.
use Rattle.std.specs.Prelude.{◌*◌, ◌+◌, ◌<◌, pred, suc, ℕ, cond, List, [], ◌++◌, ◌∷◌, map, eqb, leb, ltb, length}
use Rattle.meaning.specs.Intervals.{Constraint, is_within}
use Rattle.meaning.specs.Lists.{filter, flat_map}
use Rattle.meaning.specs.NormalForm.{Form, Node, Successors, none, successor}
use Rattle.meaning.specs.Policy.{Chain, Policy, class, end, impossible, interval, some}

-- the ends of the constraints on f in a chain
abbrev pub ends : ℕ → Chain → List ℕ
ends f end = []
ends f (class a next) = ends f next
ends f (impossible next) = ends f next
ends f (some r child next) = ends f child ++ ends f next
ends f (interval g lo hi next) = cond (eqb f g) (lo ∷ (hi ∷ ends f next)) (ends f next)

-- each above the one before it, the first above x; and with no bound for the first
abbrev pub Rising : ℕ → List ℕ → Type 0
Rising x [] = Unit {0}
Rising x (y ∷ l) = (x < y) × Rising y l

abbrev pub Sorted : List ℕ → Type 0
Sorted [] = Unit {0}
Sorted (x ∷ l) = Rising x l

-- into a rising list, without repeats
abbrev pub insert : ℕ → List ℕ → List ℕ
insert e [] = e ∷ []
insert e (x ∷ l) = cond (ltb e x) (e ∷ (x ∷ l)) (cond (eqb e x) (x ∷ l) (x ∷ insert e l))

abbrev pub insert_all : List ℕ → List ℕ → List ℕ
insert_all [] l = l
insert_all (e ∷ es) l = insert_all es (insert e l)

-- SPECIFICATION 7.1: X, which is lo, hi and every end between them of the second policy as given
abbrev pub points : Policy → Constraint → List ℕ
points Q s =
    insert_all (filter (is_within s.lo s.hi) (flat_map (ends s.feature) Q)) (insert s.hi (s.lo ∷ []))

abbrev pub only : ℕ → ℕ → Constraint
only f x = record { feature = f; lo = x; hi = x }

-- strictly between x and y, where anything is
abbrev pub gap : ℕ → ℕ → ℕ → List Constraint
gap f x y = cond (ltb (suc x) y) (record { feature = f; lo = suc x; hi = pred y } ∷ []) []

-- SPECIFICATION 7.2: the members of X and the gaps between neighbours, rising
abbrev pub pieces_from : ℕ → ℕ → List ℕ → List Constraint
pieces_from f x [] = only f x ∷ []
pieces_from f x (y ∷ l) = only f x ∷ (gap f x y ++ pieces_from f y l)

abbrev pub pieces_at : ℕ → List ℕ → List Constraint
pieces_at f [] = []
pieces_at f (x ∷ l) = pieces_from f x l

abbrev pub pieces : Policy → Constraint → List Constraint
pieces Q s = pieces_at s.feature (points Q s)

-- how many neighbours differ by 2 or more, in x ∷ l and in a list
abbrev pub wide : ℕ → List ℕ → ℕ
wide x [] = 0
wide x (y ∷ l) = cond (leb (suc (suc x)) y) 1 0 + wide y l

abbrev pub wide_neighbours : List ℕ → ℕ
wide_neighbours [] = 0
wide_neighbours (x ∷ l) = wide x l

-- SPECIFICATION 7.3: the choices of one piece for each constraint, the last varying fastest
abbrev pub choices : Policy → List Constraint → List (List Constraint)
choices Q [] = [] ∷ []
choices Q (s ∷ l) = flat_map (λ p. map (λ r. p ∷ r) (choices Q l)) (pieces Q s)

abbrev pub split_node : Policy → Node → List Node
split_node Q n = map (λ r. record { classes = n.classes; constraints = r }) (choices Q n.constraints)

abbrev pub split_successors : Policy → Successors → List Successors
split_successors Q none = none ∷ []
split_successors Q (successor r n under next) =
    flat_map (λ m. flat_map (λ bs. map (λ ns. successor r m bs ns) (split_successors Q next)) (split_successors Q under)) (split_node Q n)

-- SPECIFICATION 7.3: a term's combinations; a combination is again a form, with pieces for constraints
unfoldable pub combinations : Policy → Form → List Form
combinations Q t =
    flat_map (λ n. map (λ ns. record { node = n; successors = ns }) (split_successors Q t.successors)) (split_node Q t.node)

-- SPECIFICATION 7.3: the constraints by individual, then by place
abbrev pub constraints_below : Successors → List Constraint
constraints_below none = []
constraints_below (successor r n under next) = n.constraints ++ (constraints_below under ++ constraints_below next)

abbrev pub constraints_of : Form → List Constraint
constraints_of t = t.node.constraints ++ constraints_below t.successors

-- how many combinations there are: the product of the constraints' numbers of pieces
abbrev pub product : Policy → List Constraint → ℕ
product Q [] = 1
product Q (s ∷ l) = length (pieces Q s) * product Q l

unfoldable pub combination_count : Policy → Form → ℕ
combination_count Q t = product Q (constraints_of t)
