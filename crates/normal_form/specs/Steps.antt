-- What each function of the crate asks, and what it does to the tables.
use Rattle.std.specs.Prelude.{◌+◌, ◌-◌, ◌<◌, ◌≤◌, ℕ, Bool, ◌||◌, cond, List, [], ◌∷◌, ◌⊎◌, ◌≡◌, eqb, get_or, length, replicate, take}
use Rattle.closure.specs.Rows.{row_of}
use Rattle.frames.specs.Frames.{Only, Span}
use Rattle.frames.specs.Rows.{row_at}
use Rattle.functional.specs.declared.Functional.{Functional}
use Rattle.layout.specs.Places.{constraint_place, constraints_at, individual_place, individuals_at, pending_at, role_row, tables_end}
use Rattle.layout.specs.Tables.{ConstraintsStand, RowsStand, held_below, held_by, interval_of}
use Rattle.layout.specs.declared.Tables.{Tables}
use Rattle.meaning.specs.Accepted.{ChainOf, NamedChain, Reads}
use Rattle.meaning.specs.Countermodel.{size}
use Rattle.meaning.specs.Intervals.{Constraint}
use Rattle.meaning.specs.Limits.{most_classes, most_features, most_records, most_roles}
use Rattle.meaning.specs.Lists.{All, any, filter}
use Rattle.meaning.specs.NormalForm.{Successors, place_constraint}
use Rattle.meaning.specs.Policy.{Chain, child_of, name_of}
use Rattle.meaning.specs.Splitting.{constraints_below}
use Rattle.meaning.specs.Vocabulary.{Vocabulary, role_count, vocabulary_of}
use Rattle.normal_form.specs.Parts.{Arm, arm_at, bottom_here, bottom_here_all, classes_all, classes_in, count_all, has_bottom_all}
use Rattle.policy.specs.Terms.{ConjunctOf, conjunct_of, conjuncts_at}
use Rattle.normal_form.specs.Parts.{interval_count, intervals_all, intervals_in, joins, live, parts, roles, roles_all, successors_of}
use Rattle.normal_form.specs.Parts.{weigh, words_at}
use Rattle.normal_form.specs.declared.Draft.{Draft}
use Rattle.preparation.specs.Prepared.{Prepared}
use Rattle.words.specs.Rows.{class_words}
use Rattle.words.specs.Sets.{in_set}

-- ---- the policy

-- the words from record k on are a chain whose names have rows
pub record Good (p : List ℕ) (k : ℕ) : Type 0 where
  pub reads : Reads p k (conjuncts_at p k)
  pub named : NamedChain most_classes most_roles most_features (conjuncts_at p k)

-- a pending record
pub record Entry (p : List ℕ) (k : ℕ) : Type 0 where
  pub role : name_of p k ≤ most_roles
  pub good : Good p (child_of p k)

abbrev pub Sure : List ℕ → List ℕ → Type 0
Sure p l = All (λ k. (k ≡ 0) ⊎ Entry p k) l

-- the arms pending from j to before stop
abbrev pub rest_at : List ℕ → List ℕ → ℕ → ℕ → List Arm
rest_at p w j stop = live p (words_at w j (stop - j))

-- ---- sets of classes

-- the rows of the classes and of the ranges
unfoldable pub front : List ℕ → List ℕ
front w = take pending_at w

-- what a new individual by role r starts with; the first one is by no role
unfoldable pub start_of : List ℕ → ℕ → List ℕ
start_of h r = cond (eqb r 0) (replicate class_words 0) (row_of h (role_row r))

-- the set ws: the set s, and the rows of the list's classes
abbrev pub Told : List ℕ → List ℕ → List ℕ → List ℕ → Type 0
Told h s ws cs = (b : ℕ) → in_set ws b ≡ any (λ c. in_set (row_of h c) b) cs || in_set s b

-- ---- the work slice

-- the places that may change while an individual is worked on: pending words from j to before e, which are struck out, and from u on
-- pending words, rows from n on and constraints from m on
pub data Fresh (j e u n m i : ℕ) : Type 0 where
  struck : Span pending_at individuals_at i → Span j e i → Fresh j e u n m i
  pended : Span pending_at individuals_at i → u ≤ i → Fresh j e u n m i
  rowed : Span (individual_place n) constraints_at i → u ≤ i → Fresh j e u n m i
  constrained : Span (constraint_place m) tables_end i → u ≤ i → Fresh j e u n m i

-- the constraint has gone to those of individual x, from place i on
pub record Placed (one : Bool) (x i top f lo hi : ℕ) (w w' : List ℕ) (r : ℕ) : Type 0 where
  pub ends : (l : List Constraint) → top ≡ i + length l → ConstraintsStand w i (held_by x l) → r ≡ i + length (place_constraint one (interval_of f lo hi) l)
  pub constraints : (l : List Constraint) → top ≡ i + length l → ConstraintsStand w i (held_by x l) →
      ConstraintsStand w' i (held_by x (place_constraint one (interval_of f lo hi) l))
  pub more : top ≤ r
  pub few : r ≤ top + 1
  pub only : Only (Span (constraint_place i) tables_end) w w'

-- there is room for so many arms and constraints
pub record HasRoom (w : List ℕ) (m : ℕ) (g : Draft) (nr ns : ℕ) : Type 0 where
  pub long : tables_end ≤ length w
  pub low : pending_at ≤ g.pending
  pub pending : g.pending + nr ≤ individuals_at
  pub first : m ≤ g.constraints
  pub constraints : g.constraints + ns ≤ most_records

-- conjuncts with these classes, arms and constraints have been added to individual x, whose constraints start at m
pub record Adds (p : List ℕ) (x j e m : ℕ) (fc : List ℕ → List ℕ) (rs : List Arm) (fs : List Constraint → List Constraint) (ns : ℕ) (b : Bool)
    (w w' : List ℕ) (g g' : Draft) : Type 0 where
  pub classes : (s cs : List ℕ) → Told (front w) s g.classes.words cs → Told (front w) s g'.classes.words (fc cs)
  pub pending : g'.pending ≡ g.pending + length rs
  pub arms : live p (words_at w' g.pending (length rs)) ≡ rs
  pub sure : Sure p (words_at w' g.pending (length rs))
  pub top : (l : List Constraint) → g.constraints ≡ m + length l → ConstraintsStand w m (held_by x l) → g'.constraints ≡ m + length (fs l)
  pub constraints : (l : List Constraint) → g.constraints ≡ m + length l → ConstraintsStand w m (held_by x l) → ConstraintsStand w' m (held_by x (fs l))
  pub few : g'.constraints ≤ g.constraints + ns
  pub first : g.constraints ≤ g'.constraints
  pub bottom : g'.impossible ≡ g.impossible || b
  pub only : Only (Fresh j e g.pending most_records m) w w'

-- the conjuncts of a chain, and those of arms, have been added; `one` tells the functional features
abbrev pub Adding : (ℕ → Bool) → List ℕ → ℕ → ℕ → Chain → List ℕ → List ℕ → Draft → Draft → Type 0
Adding one p x m c w w' g g' = Adds p x 0 0 m (classes_in c) (roles c) (intervals_in one c) (interval_count c) (bottom_here c) w w' g g'

abbrev pub Gathering : (ℕ → Bool) → List ℕ → ℕ → ℕ → ℕ → ℕ → List Arm → List ℕ → List ℕ → Draft → Draft → Type 0
Gathering one p x j stop m l w w' g g' =
    Adds p x j stop m (classes_all l) (roles_all l) (intervals_all one l) (count_all l) (bottom_here_all l) w w' g g'

-- room for a chain, and for all arms of a list
abbrev pub HasRoomFor : List ℕ → ℕ → Draft → Chain → Type 0
HasRoomFor w m g c = HasRoom w m g (length (roles c)) (interval_count c)

abbrev pub HasRoomForAll : List ℕ → ℕ → Draft → List Arm → Type 0
HasRoomForAll w m g l = HasRoom w m g (length (roles_all l)) (count_all l)

-- record k is a conjunct's whose names have rows, and there is room for what it adds
pub record Single (p w : List ℕ) (m : ℕ) (g : Draft) (k : ℕ) : Type 0 where
  pub some : k ≡ 0 → ⊥
  pub conjunct : ConjunctOf p k
  pub named : NamedChain most_classes most_roles most_features (conjunct_of p k)
  pub room : HasRoomFor w m g (conjunct_of p k)

-- arms pending from j to stop, with room for all that they hold
pub record Gatherable (p w : List ℕ) (j stop m : ℕ) (g : Draft) : Type 0 where
  pub order : j ≤ stop
  pub high : stop ≤ g.pending
  pub low : pending_at ≤ j
  pub sure : Sure p (words_at w j (stop - j))
  pub room : HasRoomForAll w m g (rest_at p w j stop)

-- of the arms pending from j to stop, those that join role r have gone to individual x, and are struck out
pub record Gathered (f : Functional) (p : List ℕ) (r j stop x m : ℕ) (w w' : List ℕ) (g g' : Draft) : Type 0 where
  pub added : Gathering (in_set f.features) p x j stop m (filter (joins (in_set f.roles) r) (rest_at p w j stop)) w w' g g'
  pub left : rest_at p w' j stop ≡ filter (parts (in_set f.roles) r) (rest_at p w j stop)
  pub sure : Sure p (words_at w' j (stop - j))

-- arms pending from j to stop, and room for what lies below them, after n individuals and m constraints
pub record Room (p w : List ℕ) (j stop n m : ℕ) : Type 0 where
  pub long : tables_end ≤ length w
  pub low : pending_at ≤ j
  pub order : j ≤ stop
  pub sure : Sure p (words_at w j (stop - j))
  pub pending : stop + weigh (rest_at p w j stop) ≤ individuals_at
  pub rows : n + length (rest_at p w j stop) + weigh (rest_at p w j stop) ≤ most_records
  pub constraints : m + weigh (rest_at p w j stop) ≤ most_records

-- the individual of the arms `every`, number n + 1, has its row, its constraints and its own arms pending; `others` are pending still
pub record Noded (f : Functional) (p : List ℕ) (every others : List Arm) (r j stop i n m : ℕ) (b : Bool) (w w' : List ℕ) (g : Draft) : Type 0 where
  pub parent : get_or w' (individual_place n) 0 ≡ i
  pub role : get_or w' (individual_place n + 1) 0 ≡ r
  pub classes : Told (front w) (start_of (front w) r) (row_at class_words w' (individual_place n + 2)) (classes_all every [])
  pub top : g.constraints ≡ m + length (intervals_all (in_set f.features) every [])
  pub constraints : ConstraintsStand w' m (held_by (n + 1) (intervals_all (in_set f.features) every []))
  pub few : g.constraints ≤ m + count_all every
  pub pending : g.pending ≡ stop + length (roles_all every)
  pub arms : live p (words_at w' stop (length (roles_all every))) ≡ roles_all every
  pub sure : Sure p (words_at w' stop (length (roles_all every)))
  pub left : rest_at p w' (j + 1) stop ≡ others
  pub left_sure : Sure p (words_at w' (j + 1) (stop - (j + 1)))
  pub bottom : g.impossible ≡ b || bottom_here_all every
  pub only : Only (Fresh j j j n m) w w'

-- the arms that go to the individual of record k's arm, and the others, of those pending from j on
abbrev pub every_at : (ℕ → Bool) → List ℕ → List ℕ → ℕ → ℕ → ℕ → List Arm
every_at one p w j stop k = arm_at p k ∷ filter (joins one (name_of p k)) (rest_at p w (j + 1) stop)

abbrev pub others_at : (ℕ → Bool) → List ℕ → List ℕ → ℕ → ℕ → ℕ → List Arm
others_at one p w j stop k = filter (parts one (name_of p k)) (rest_at p w (j + 1) stop)

-- record k is pending at j, before stop, and there is room for its individual and for all that are below it or pending after it
pub record Waiting (p w : List ℕ) (j k stop : ℕ) (t : Tables) : Type 0 where
  pub less : j < stop
  pub here : k ≡ get_or w j 0
  pub some : k ≡ 0 → ⊥
  pub room : Room p w j stop t.individuals t.constraints

-- the individual of record k, pending at j, has been made, after what t counts
abbrev pub NodedFrom : Functional → List ℕ → ℕ → ℕ → ℕ → ℕ → Tables → List ℕ → List ℕ → Draft → Type 0
NodedFrom f p j k stop i t w w' g =
    Noded f p (every_at (in_set f.roles) p w j stop k) (others_at (in_set f.roles) p w j stop k) (name_of p k) j stop i
    t.individuals t.constraints t.impossible w w' g

-- the tables hold the individuals ks below individual i, after n individuals and m constraints
pub record Grown (K : Vocabulary) (ks : Successors) (i n m : ℕ) (w : List ℕ) (t : Tables) : Type 0 where
  pub count : t.individuals ≡ n + size ks
  pub top : t.constraints ≡ m + length (constraints_below ks)
  pub rows : RowsStand K w ks i n
  pub held : ConstraintsStand w m (held_below ks (n + 1))

-- an arm with names of v's, or no name
abbrev pub ArmOf : List ℕ → Arm → Type 0
ArmOf v a = (a.role ≤ role_count v) × ChainOf v a.child

-- the individuals of the arms l below individual i have been built, by whatever vocabulary was prepared
pub record Built (f : Functional) (l : List Arm) (j i n m : ℕ) (b : Bool) (w w' : List ℕ) (t : Tables) : Type 0 where
  pub grown : (v : List ℕ) → Prepared v w f → All (ArmOf v) l → Grown (vocabulary_of v) (successors_of (vocabulary_of v) l) i n m w' t
  pub more : (n ≤ t.individuals) × (m ≤ t.constraints)
  pub few : t.individuals ≤ n + length l + weigh l
  pub fewer : t.constraints ≤ m + weigh l
  pub bottom : t.impossible ≡ b || has_bottom_all l
  pub only : Only (Fresh j j j n m) w w'

-- the individuals of the arms pending from j to stop have been built, after what t counts
abbrev pub BuiltFrom : Functional → List ℕ → ℕ → ℕ → ℕ → Tables → List ℕ → List ℕ → Tables → Type 0
BuiltFrom f p j stop i t w w' u = Built f (rest_at p w j stop) j i t.individuals t.constraints t.impossible w w' u
