-- What a chain of conjuncts adds to an individual: classes, constraints, roles to follow; and the individuals that those roles reach.
use Rattle.std.specs.Prelude.{◌+◌, suc, zero, ℕ, Bool, ◌&&◌, ◌||◌, cond, false, not, true, List, [], ◌++◌, ◌∷◌, eqb, get_or}
use Rattle.meaning.specs.Accepted.{count}
use Rattle.meaning.specs.Intervals.{Constraint}
use Rattle.meaning.specs.Lists.{any}
use Rattle.meaning.specs.NormalForm.{Successors, add, bare, has_bottom, none, place_constraint, place_successor}
use Rattle.meaning.specs.Policy.{Chain, child_of, class, end, impossible, interval, name_of, some}
use Rattle.meaning.specs.Stated.{is_functional_role, ranges}
use Rattle.meaning.specs.Vocabulary.{Vocabulary}
use Rattle.policy.specs.Terms.{conjuncts_at}

-- ---- the parts of a chain; `one` tells the functional names

-- a role to follow: the individual that it reaches is in the child chain
pub record Arm : Type 0 where
  pub role : ℕ
  pub child : Chain

abbrev pub classes_in : Chain → List ℕ → List ℕ
classes_in end cs = cs
classes_in (class a next) cs = classes_in next (a ∷ cs)
classes_in (impossible next) cs = classes_in next cs
classes_in (some r child next) cs = classes_in next cs
classes_in (interval f lo hi next) cs = classes_in next cs

abbrev pub intervals_in : (ℕ → Bool) → Chain → List Constraint → List Constraint
intervals_in one end l = l
intervals_in one (class a next) l = intervals_in one next l
intervals_in one (impossible next) l = intervals_in one next l
intervals_in one (some r child next) l = intervals_in one next l
intervals_in one (interval f lo hi next) l = intervals_in one next (place_constraint (one f) (record { feature = f; lo = lo; hi = hi }) l)

abbrev pub roles : Chain → List Arm
roles end = []
roles (class a next) = roles next
roles (impossible next) = roles next
roles (some r child next) = record { role = r; child = child } ∷ roles next
roles (interval f lo hi next) = roles next

-- the impossible concept stands among its own conjuncts
abbrev pub bottom_here : Chain → Bool
bottom_here end = false
bottom_here (class a next) = bottom_here next
bottom_here (impossible next) = true
bottom_here (some r child next) = bottom_here next
bottom_here (interval f lo hi next) = bottom_here next

-- how many constraints
abbrev pub interval_count : Chain → ℕ
interval_count end = 0
interval_count (class a next) = interval_count next
interval_count (impossible next) = interval_count next
interval_count (some r child next) = interval_count next
interval_count (interval f lo hi next) = suc (interval_count next)

-- the classes, constraints, roles and numbers of the arms that go to one individual
abbrev pub classes_all : List Arm → List ℕ → List ℕ
classes_all [] cs = cs
classes_all (a ∷ l) cs = classes_all l (classes_in a.child cs)

abbrev pub intervals_all : (ℕ → Bool) → List Arm → List Constraint → List Constraint
intervals_all one [] s = s
intervals_all one (a ∷ l) s = intervals_all one l (intervals_in one a.child s)

abbrev pub roles_all : List Arm → List Arm
roles_all [] = []
roles_all (a ∷ l) = roles a.child ++ roles_all l

abbrev pub bottom_here_all : List Arm → Bool
bottom_here_all [] = false
bottom_here_all (a ∷ l) = bottom_here a.child || bottom_here_all l

abbrev pub count_all : List Arm → ℕ
count_all [] = 0
count_all (a ∷ l) = interval_count a.child + count_all l

-- how many records stand below the arms, and whether one of them is the impossible concept
abbrev pub weigh : List Arm → ℕ
weigh [] = 0
weigh (a ∷ l) = count a.child + weigh l

abbrev pub has_bottom_all : List Arm → Bool
has_bottom_all l = any (λ a. has_bottom a.child) l

-- ---- the individuals that arms reach

abbrev pub place_all : Vocabulary → List Arm → Successors → Successors
place_all K [] ks = ks
place_all K (a ∷ l) ks = place_all K l (place_successor (is_functional_role K a.role) a.role (bare (ranges K a.role)) (add K a.child) ks)

unfoldable pub successors_of : Vocabulary → List Arm → Successors
successors_of K l = place_all K l none

-- arm a goes to the individual that a first arm of role r has made, or not
abbrev pub joins : (ℕ → Bool) → ℕ → Arm → Bool
joins one r a = one a.role && eqb a.role r

abbrev pub parts : (ℕ → Bool) → ℕ → Arm → Bool
parts one r a = not (joins one r a)

-- ---- pending words

abbrev pub words_at : List ℕ → ℕ → ℕ → List ℕ
words_at w b zero = []
words_at w b (suc n) = get_or w b 0 ∷ words_at w (suc b) n

abbrev pub arm_at : List ℕ → ℕ → Arm
arm_at p k = record { role = name_of p k; child = conjuncts_at p (child_of p k) }

-- the arms that pending words stand for; 0 is struck out
abbrev pub live : List ℕ → List ℕ → List Arm
live p [] = []
live p (k ∷ l) = cond (eqb k 0) (live p l) (arm_at p k ∷ live p l)
