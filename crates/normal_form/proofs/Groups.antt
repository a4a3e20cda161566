-- A normal form by groups: the first arm of a functional role takes those that join it, the others stand after it. The numbers, names
-- and impossible concepts of a group, and its classes.
use Prim.Native.Nat.{◌+◌, ◌≤◌, suc, ℕ}
use mathlib.Core.Bool.{Bool, ◌||◌, cond, false, not, or_assoc, true}
use mathlib.Core.List.{List, [], ◌++◌, ◌∷◌}
use mathlib.Core.Path.{◌∙◌, ◌≡◌, ap, refl, sym}
use native.Mathlib.Omega.{arith}
use lib.Dec.{eqb}
use lib.ListN.{length, length-append}
use borrow.Author.Tests.{eqb-false, eqb-true, ne_eqb}
use Rattle.closure.specs.Rows.{row_of}
use Rattle.functional.specs.declared.Functional.{Functional}
use Rattle.layout.specs.Places.{role_row, row_place, tables_end}
use Rattle.layout.specs.Tables.{Above}
use Rattle.meaning.specs.Accepted.{ChainOf, count}
use Rattle.meaning.specs.Intervals.{Constraint}
use Rattle.meaning.specs.Limits.{most_classes, most_features, most_roles}
use Rattle.meaning.specs.Lists.{All, any, cons, filter, nil}
use Rattle.meaning.specs.NormalForm.{Form, Node, Successors, add, bare, graft, has_bottom, none, normal_form, place_successor, successor}
use Rattle.meaning.specs.Policy.{Chain, class, end, impossible, interval, some}
use Rattle.meaning.specs.Records.{Name}
use Rattle.meaning.specs.Stated.{is_below, is_functional_feature, is_functional_role, ranges, ranges_in}
use Rattle.meaning.specs.Vocabulary.{Vocabulary, class_count, feature_count, role_count, vocabulary_of}
use Rattle.normal_form.proofs.Laws.{front_row}
use Rattle.normal_form.specs.Parts.{Arm, bottom_here, bottom_here_all, classes_all, classes_in, count_all, has_bottom_all, interval_count}
use Rattle.normal_form.specs.Parts.{intervals_all, intervals_in, joins, parts, place_all, roles, roles_all, successors_of, weigh}
use Rattle.normal_form.specs.Steps.{ArmOf, Told, front, start_of}
use Rattle.preparation.specs.Prepared.{Prepared}
use Rattle.theory.proofs.Bounds.{range_pairs_named}
use Rattle.theory.proofs.Rules.{all_append, any_join, head, tail}
use Rattle.theory.proofs.Wellformed.{accepted_counts}
use Rattle.words.proofs.Laws.{in_zeros}
use Rattle.words.specs.Rows.{class_words}
use Rattle.words.specs.Sets.{in_set}

-- ---- the individuals

abbrev add_all : Vocabulary → List Arm → Form → Form
add_all K [] t = t
add_all K (a ∷ l) t = add_all K l (add K a.child t)

abbrev onto : Vocabulary → List Arm → List ℕ → List Constraint → Successors → Form
onto K l cs ss ks = record { node = record { classes = cs; constraints = ss }; successors = place_all K l ks }

add_parts : (K : Vocabulary) (c : Chain) (t : Form) → add K c t ≡ onto K (roles c) (classes_in c t.node.classes) (intervals_in (is_functional_feature K) c t.node.constraints) t.successors
add_parts K end t = refl
add_parts K (class a next) t = add_parts K next _
add_parts K (impossible next) t = add_parts K next _
add_parts K (some r child next) t = add_parts K next _
add_parts K (interval f lo hi next) t = add_parts K next _

place_append : (K : Vocabulary) (l m : List Arm) (ks : Successors) → place_all K (l ++ m) ks ≡ place_all K m (place_all K l ks)
place_append K [] m ks = refl
place_append K (a ∷ l) m ks = place_append K l m _

all_parts : (K : Vocabulary) (l : List Arm) (t : Form) → add_all K l t ≡ onto K (roles_all l) (classes_all l t.node.classes) (intervals_all (is_functional_feature K) l t.node.constraints) t.successors
all_parts K [] t = refl
all_parts K (a ∷ l) t =
    ap (add_all K l) (add_parts K a.child t)
    ∙ all_parts K l (onto K (roles a.child) (classes_in a.child t.node.classes) (intervals_in (is_functional_feature K) a.child t.node.constraints) t.successors)
    ∙ ap (λ (x : Successors). record { node = record { classes = classes_all (a ∷ l) t.node.classes; constraints = intervals_all (is_functional_feature K) (a ∷ l) t.node.constraints }; successors = x })
    (sym (place_append K (roles a.child) (roles_all l) t.successors))

-- arms after a first one of role s
groups : (K : Vocabulary) (l : List Arm) (s : ℕ) (n : Node) (ks next : Successors) →
    place_all K l (successor s n ks next)
    ≡ graft s (add_all K (filter (joins (is_functional_role K) s) l) (record { node = n; successors = ks })) (place_all K (filter (parts (is_functional_role K) s) l) next)
groups K [] s n ks next = refl
groups K (a ∷ l) s n ks next = go (joins (is_functional_role K) s a) (λ n' ks'. groups K l s n' ks' next) (λ next'. groups K l s n ks next')
  where
    go : (b : Bool) →
        ((n' : Node) (ks' : Successors) → place_all K l (successor s n' ks' next)
        ≡ graft s (add_all K (filter (joins (is_functional_role K) s) l) (record { node = n'; successors = ks' })) (place_all K (filter (parts (is_functional_role K) s) l) next)) →
        ((next' : Successors) → place_all K l (successor s n ks next')
        ≡ graft s (add_all K (filter (joins (is_functional_role K) s) l) (record { node = n; successors = ks })) (place_all K (filter (parts (is_functional_role K) s) l) next')) →
        place_all K l
        (cond b (graft s (add K a.child (record { node = n; successors = ks })) next)
        (successor s n ks (place_successor (is_functional_role K a.role) a.role (bare (ranges K a.role)) (add K a.child) next)))
        ≡ graft s (add_all K (cond b (a ∷ filter (joins (is_functional_role K) s) l) (filter (joins (is_functional_role K) s) l)) (record { node = n; successors = ks }))
        (place_all K (cond (not b) (a ∷ filter (parts (is_functional_role K) s) l) (filter (parts (is_functional_role K) s) l)) next)
    go true f g = f _ _
    go false f g = g _

-- a first arm and those after it
by_groups : (K : Vocabulary) (a : Arm) (l : List Arm) →
    let every = a ∷ filter (joins (is_functional_role K) a.role) l in
    successors_of K (a ∷ l) ≡ successor a.role (record { classes = classes_all every (ranges K a.role); constraints = intervals_all (is_functional_feature K) every [] })
    (successors_of K (roles_all every)) (successors_of K (filter (parts (is_functional_role K) a.role) l))
unfolding successors_of
by_groups K a l =
    groups K l a.role (add K a.child (bare (ranges K a.role))).node (add K a.child (bare (ranges K a.role))).successors none
    ∙ ap (λ (t : Form). graft a.role t (place_all K (filter (parts (is_functional_role K) a.role) l) none)) (all_parts K (a ∷ filter (joins (is_functional_role K) a.role) l) (bare (ranges K a.role)))

-- by tests that tell the functional names
pub successors_cons : (K : Vocabulary) {one two : ℕ → Bool} → one ≡ is_functional_role K → two ≡ is_functional_feature K → (a : Arm) (l : List Arm) →
    let every = a ∷ filter (joins one a.role) l in
    successors_of K (a ∷ l) ≡ successor a.role (record { classes = classes_all every (ranges K a.role); constraints = intervals_all two every [] })
    (successors_of K (roles_all every)) (successors_of K (filter (parts one a.role) l))
successors_cons K e d a l = simp (e, d) (by_groups K a l)

-- the whole term: as the one arm of a role 0 without ranges
pub successors_root : (K : Vocabulary) (c : Chain) → ranges K 0 ≡ [] →
    successors_of K (record { role = 0; child = c } ∷ []) ≡ successor 0 (normal_form K c).node (normal_form K c).successors none
unfolding successors_of normal_form
successors_root K c e = ap (λ (cs : List ℕ). graft 0 (add K c (bare cs)) none) e

-- ---- numbers

-- equal arms have equal numbers
pub record Alike (l m : List Arm) : Type 0 where
  pub long : length l ≡ length m
  pub heavy : weigh l ≡ weigh m

pub alike : {l m : List Arm} → l ≡ m → Alike l m
alike e = record { long = ap length e; heavy = ap weigh e }

module _ (p : Arm → Bool) where
  pub filter_length : (l : List Arm) → length (filter p l) + length (filter (λ a. not (p a)) l) ≡ length l
  filter_length [] = refl
  filter_length (a ∷ l) = go (p a) (filter_length l)
    where
      go : (b : Bool) → length (filter p l) + length (filter (λ x. not (p x)) l) ≡ length l →
          length (cond b (a ∷ filter p l) (filter p l)) + length (cond (not b) (a ∷ filter (λ x. not (p x)) l) (filter (λ x. not (p x)) l)) ≡ suc (length l)
      go true h = omega arith
      go false h = omega arith

  pub filter_weigh : (l : List Arm) → weigh (filter p l) + weigh (filter (λ a. not (p a)) l) ≡ weigh l
  filter_weigh [] = refl
  filter_weigh (a ∷ l) = go (p a) (filter_weigh l)
    where
      go : (b : Bool) → weigh (filter p l) + weigh (filter (λ x. not (p x)) l) ≡ weigh l →
          weigh (cond b (a ∷ filter p l) (filter p l)) + weigh (cond (not b) (a ∷ filter (λ x. not (p x)) l) (filter (λ x. not (p x)) l)) ≡ count a.child + weigh l
      go true h = omega arith
      go false h = omega arith

weigh_append : (l m : List Arm) → weigh (l ++ m) ≡ weigh l + weigh m
weigh_append [] m = omega arith
weigh_append (a ∷ l) m = let h = weigh_append l m in omega arith

-- arms, constraints and what lies below them are among a chain's records
chain_count : (c : Chain) → length (roles c) + interval_count c + weigh (roles c) ≤ count c
chain_count end = omega arith
chain_count (class a next) = let h = chain_count next in omega arith
chain_count (impossible next) = let h = chain_count next in omega arith
chain_count (some r child next) = let h = chain_count next in omega arith
chain_count (interval f lo hi next) = let h = chain_count next in omega arith

pub all_count : (l : List Arm) → length (roles_all l) + count_all l + weigh (roles_all l) ≤ weigh l
all_count [] = omega arith
all_count (a ∷ l) =
    let h = all_count l in
    let g = chain_count a.child in
    omega (arith, length-append (roles a.child) (roles_all l), weigh_append (roles a.child) (roles_all l))

-- ---- the impossible concept

-- two of four by two of four
swap : (a b c d : Bool) → (a || b) || (c || d) ≡ (a || c) || (b || d)
swap true b c d = refl
swap false true true d = refl
swap false true false d = refl
swap false false c d = refl

front_of_lem : (a b c : Bool) → a || (b || c) ≡ b || (a || c)
front_of_lem true true c = refl
front_of_lem true false c = refl
front_of_lem false b c = refl

has_bottom_roles : (c : Chain) → has_bottom c ≡ bottom_here c || has_bottom_all (roles c)
has_bottom_roles end = refl
has_bottom_roles (class a next) = has_bottom_roles next
has_bottom_roles (impossible next) = refl
has_bottom_roles (some r child next) = ap (λ (b : Bool). has_bottom child || b) (has_bottom_roles next) ∙ front_of_lem (has_bottom child) (bottom_here next) (has_bottom_all (roles next))
has_bottom_roles (interval f lo hi next) = has_bottom_roles next

pub has_bottom_all_roles : (l : List Arm) → has_bottom_all l ≡ bottom_here_all l || has_bottom_all (roles_all l)
has_bottom_all_roles [] = refl
has_bottom_all_roles (a ∷ l) =
    ap (λ (b : Bool). b || has_bottom_all l) (has_bottom_roles a.child)
    ∙ ap (λ (b : Bool). (bottom_here a.child || has_bottom_all (roles a.child)) || b) (has_bottom_all_roles l)
    ∙ swap (bottom_here a.child) (has_bottom_all (roles a.child)) (bottom_here_all l) (has_bottom_all (roles_all l))
    ∙ ap (λ (b : Bool). (bottom_here a.child || bottom_here_all l) || b) (sym (any_join (λ x. has_bottom x.child) (roles a.child) (roles_all l)))

pub has_bottom_all_filter : (p : Arm → Bool) (l : List Arm) → has_bottom_all l ≡ has_bottom_all (filter p l) || has_bottom_all (filter (λ a. not (p a)) l)
has_bottom_all_filter p [] = refl
has_bottom_all_filter p (a ∷ l) = go (p a) (has_bottom_all_filter p l)
  where
    go : (b : Bool) → has_bottom_all l ≡ has_bottom_all (filter p l) || has_bottom_all (filter (λ x. not (p x)) l) →
        has_bottom a.child || has_bottom_all l ≡ has_bottom_all (cond b (a ∷ filter p l) (filter p l)) || has_bottom_all (cond (not b) (a ∷ filter (λ x. not (p x)) l) (filter (λ x. not (p x)) l))
    go true h = ap (λ (t : Bool). has_bottom a.child || t) h ∙ sym (or_assoc (has_bottom a.child) (has_bottom_all (filter p l)) (has_bottom_all (filter (λ x. not (p x)) l)))
    go false h = ap (λ (t : Bool). has_bottom a.child || t) h ∙ front_of_lem (has_bottom a.child) (has_bottom_all (filter p l)) (has_bottom_all (filter (λ x. not (p x)) l))

-- ---- names

pub filter_all : {P : Arm → Type 0} (p : Arm → Bool) {l : List Arm} → All P l → All P (filter p l)
filter_all p nil = nil
filter_all {P} p (cons {x = a} {l = l} h t) = go (p a) (filter_all p t)
  where
    go : (b : Bool) → All P (filter p l) → All P (cond b (a ∷ filter p l) (filter p l))
    go true r = cons h r
    go false r = r

module _ (v : List ℕ) where
  named_roles : (c : Chain) → ChainOf v c → All (ArmOf v) (roles c)
  named_roles end h = nil
  named_roles (class a next) h = named_roles next h.1
  named_roles (impossible next) h = named_roles next h
  named_roles (some r child next) h = cons (h.0.1, h.1) (named_roles next h.2)
  named_roles (interval f lo hi next) h = named_roles next h.1

  pub named_below : (l : List Arm) → All (ArmOf v) l → All (ArmOf v) (roles_all l)
  named_below [] h = nil
  named_below (a ∷ l) h = all_append (named_roles a.child (head h).1) (named_below l (tail h))

  named_classes : (c : Chain) (cs : List ℕ) → ChainOf v c → All (Name (class_count v)) cs → All (Name (class_count v)) (classes_in c cs)
  named_classes end cs h g = g
  named_classes (class a next) cs h g = named_classes next (a ∷ cs) h.1 (cons h.0 g)
  named_classes (impossible next) cs h g = named_classes next cs h g
  named_classes (some r child next) cs h g = named_classes next cs h.2 g
  named_classes (interval f lo hi next) cs h g = named_classes next cs h.1 g

  named_all : (l : List Arm) (cs : List ℕ) → All (ArmOf v) l → All (Name (class_count v)) cs → All (Name (class_count v)) (classes_all l cs)
  named_all [] cs h g = g
  named_all (a ∷ l) cs h g = named_all l (classes_in a.child cs) (tail h) (named_classes a.child cs (head h).1 g)

-- role 0 is no role, and has no range
no_range : {R S : ℕ} {l : List (ℕ × ℕ)} → All (λ p. Name R p.0 × Name S p.1) l → ranges_in l 0 ≡ []
no_range nil = refl
no_range (cons {x = (r, c)} n t) = rw (ne_eqb 0 r (λ e. omega arith)) (no_range t)

-- ---- classes

classes_append : (c : Chain) (cs ds : List ℕ) → classes_in c (cs ++ ds) ≡ classes_in c cs ++ ds
classes_append end cs ds = refl
classes_append (class a next) cs ds = classes_append next (a ∷ cs) ds
classes_append (impossible next) cs ds = classes_append next cs ds
classes_append (some r child next) cs ds = classes_append next cs ds
classes_append (interval f lo hi next) cs ds = classes_append next cs ds

all_append_classes : (l : List Arm) (cs ds : List ℕ) → classes_all l (cs ++ ds) ≡ classes_all l cs ++ ds
all_append_classes [] cs ds = refl
all_append_classes (a ∷ l) cs ds = ap (classes_all l) (classes_append a.child cs ds) ∙ all_append_classes l (classes_in a.child cs) ds

-- what the rows say is what the vocabulary says
module _ {v w : List ℕ} {f : Functional} (prepared : Prepared v w f) where
  counts : Name most_classes (class_count v) × (role_count v ≤ most_roles) × (feature_count v ≤ most_features)
  counts = accepted_counts v prepared.accepted

  pub unranged : ranges (vocabulary_of v) 0 ≡ []
  unfolding ranges
  unranged = no_range (range_pairs_named v prepared.accepted)

  module _ (long : tables_end ≤ length w) (b : ℕ) where
    rows_say : {cs : List ℕ} → All (Name (class_count v)) cs → any (λ c. in_set (row_of (front w) c) b) cs ≡ any (λ c. is_below (vocabulary_of v) c b) cs
    rows_say nil = refl
    rows_say (cons {x = c} {l = cs} n t) =
        ap (λ (y : Bool). y || any (λ d. in_set (row_of (front w) d) b) cs)
        (ap (λ (l : List ℕ). in_set l b) (front_row w (row_place c) (let u = counts in omega arith) long) ∙ prepared.closed.rows c b n)
        ∙ ap (λ (y : Bool). is_below (vocabulary_of v) c b || y) (rows_say t)

    start_says : (r : ℕ) → r ≤ role_count v → in_set (start_of (front w) r) b ≡ any (λ c. is_below (vocabulary_of v) c b) (ranges (vocabulary_of v) r)
    unfolding start_of
    start_says r h = go (eqb r 0) refl
      where
        go : (t : Bool) → eqb r 0 ≡ t → in_set (start_of (front w) r) b ≡ any (λ c. is_below (vocabulary_of v) c b) (ranges (vocabulary_of v) r)
        go true e = rw (eqb-true r 0 e, unranged) (in_zeros class_words b)
        go false e =
            let n = eqb-false r 0 e in
            rw e (ap (λ (l : List ℕ). in_set l b) (front_row w (row_place (role_row r)) (let u = counts in omega arith) long) ∙ prepared.ranged.rows r b (omega arith, h))

  -- a group's set is that of the classes above its classes and its role's ranges
  pub told_above : tables_end ≤ length w → (l : List Arm) (r : ℕ) (ws : List ℕ) → r ≤ role_count v → All (ArmOf v) l →
      Told (front w) (start_of (front w) r) ws (classes_all l []) → Above (vocabulary_of v) ws (classes_all l (ranges (vocabulary_of v) r))
  told_above long l r ws h n t b =
      t b ∙ ap (λ (y : Bool). y || in_set (start_of (front w) r) b) (rows_say long b (named_all v l [] n nil))
      ∙ ap (λ (y : Bool). any (λ c. is_below (vocabulary_of v) c b) (classes_all l []) || y) (start_says long b r h)
      ∙ sym (any_join (λ c. is_below (vocabulary_of v) c b) (classes_all l []) (ranges (vocabulary_of v) r))
      ∙ ap (any (λ c. is_below (vocabulary_of v) c b)) (sym (all_append_classes l [] (ranges (vocabulary_of v) r)))
