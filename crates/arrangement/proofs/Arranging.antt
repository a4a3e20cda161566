-- The items of a normal form's individuals, arranged, are the runs of its spelled conjuncts in order.
use Prim.Native.Nat.{suc, ℕ}
use mathlib.Core.Bool.{Bool, false, true}
use mathlib.Core.List.{List, [], ◌++◌, ◌∷◌, append-nil, map}
use mathlib.Core.Logic.{⊎_elim}
use mathlib.Core.Path.{◌∙◌, ◌≡◌, ap, ap₂, refl, subst, sym}
use Rattle.arrangement.proofs.Comparing.{HasRun}
use Rattle.arrangement.proofs.Inserting.{Low, insert_item_lem, runs_low}
use Rattle.arrangement.specs.Insertion.{arranged, insert_item}
use Rattle.arrangement.specs.Runs.{Fronted, chain_items, class_key, classes_of, items_below, listed_item, role_item, run_of, runs_of}
use Rattle.entries.specs.Entries.{Item}
use Rattle.meaning.specs.Intervals.{Constraint}
use Rattle.meaning.specs.Lists.{All, cons, nil}
use Rattle.meaning.specs.NormalForm.{Node, Successors, none, successor}
use Rattle.spelling.proofs.Arranging.{sorted_map}
use Rattle.spelling.proofs.Keys.{key_apart}
use Rattle.spelling.proofs.Rising.{place_out}
use Rattle.spelling.specs.Order.{place, sorted}
use Rattle.spelling.specs.Spelling.{Conjunct, is_in, key, put_all, put_in_order, reaches, roles_of, stated, within, within_of}
use Rattle.theory.proofs.Rules.{all_append, all_at, all_of, head, tail}

-- ---- one after another, the last one first

abbrev pub arranged_onto : List Item → List Item → List Item
arranged_onto [] m = m
arranged_onto (x ∷ l) m = insert_item x (arranged_onto l m)

pub arranged_onto_lem : (l : List Item) → arranged l ≡ arranged_onto l []
arranged_onto_lem [] = refl
arranged_onto_lem (x ∷ l) = ap (insert_item x) (arranged_onto_lem l)

pub onto_append : (l l' m : List Item) → arranged_onto (l ++ l') m ≡ arranged_onto l (arranged_onto l' m)
onto_append [] l' m = refl
onto_append (x ∷ l) l' m = ap (insert_item x) (onto_append l l' m)

abbrev pub placed_onto : List Conjunct → List Conjunct → List Conjunct
placed_onto [] m = m
placed_onto (x ∷ l) m = place key x (placed_onto l m)

placed_append : (l l' : List Conjunct) → placed_onto l (placed_onto l' []) ≡ sorted key (l ++ l')
placed_append [] [] = refl
placed_append [] (x ∷ l') = ap (place key x) (placed_append [] l')
placed_append (x ∷ l) l' = ap (place key x) (placed_append l l')

place_all_lem : {P : Conjunct → Type 0} (x : Conjunct) (l : List Conjunct) → P x → All P l → All P (place key x l)
place_all_lem {P} x l g h = all_of (place key x l) (λ z w. ⊎_elim (λ e. subst P (sym e) g) (λ v. all_at h v) (place_out key key_apart x l z w))

placed_all : {P : Conjunct → Type 0} (l m : List Conjunct) → All P l → All P m → All P (placed_onto l m)
placed_all [] m g h = h
placed_all (x ∷ l) m g h = place_all_lem x (placed_onto l m) (head g) (placed_all l m (tail g) h)

pub sorted_all : {P : Conjunct → Type 0} (l : List Conjunct) → All P l → All P (sorted key l)
sorted_all [] g = nil
sorted_all (x ∷ l) g = place_all_lem x (sorted key l) (head g) (sorted_all l (tail g))

-- ---- classes go in front

class_first : (a : ℕ) (m : List Conjunct) → All HasRun m → place key (is_in a) m ≡ is_in a ∷ m
class_first a [] h = refl
class_first a (is_in b ∷ m) h = absurd (head h)
class_first a (within f lo hi ∷ m) h = refl
class_first a (reaches r c ∷ m) h = refl

sorted_classes : (cs : List ℕ) (m : List Conjunct) → All HasRun m → sorted key (map is_in cs ++ m) ≡ map is_in (sorted class_key cs) ++ sorted key m
sorted_classes cs m h = sorted_map class_key key is_in (λ a b. refl) cs m (λ c. class_first c (sorted key m) (sorted_all m h))

-- ---- of a chain that is put from conjuncts

put_classes : (cs : List ℕ) (m : List Conjunct) → All HasRun m → classes_of (put_all (map is_in cs ++ m)) ≡ cs
put_classes [] [] h = refl
put_classes [] (is_in a ∷ m) h = absurd (head h)
put_classes [] (within f lo hi ∷ m) h = refl
put_classes [] (reaches r c ∷ m) h = refl
put_classes (c ∷ cs) m h = ap (λ (w : List ℕ). c ∷ w) (put_classes cs m h)

put_items : (d : ℕ) (cs : List ℕ) (m : List Conjunct) → chain_items d (put_all (map is_in cs ++ m)) ≡ runs_of d m
put_items d [] [] = refl
put_items d [] (is_in a ∷ m) = put_items d [] m
put_items d [] (within f lo hi ∷ m) = ap (λ (w : List Item). run_of d (within f lo hi) ++ w) (put_items d [] m)
put_items d [] (reaches r c ∷ m) = ap (λ (w : List Item). run_of d (reaches r c) ++ w) (put_items d [] m)
put_items d (c ∷ cs) m = put_items d cs m

put_fronted : (b : Bool) (m : List Conjunct) → All HasRun m → Fronted b (put_all m)
put_fronted b [] h = tt
put_fronted b (is_in a ∷ m) h = absurd (head h)
put_fronted b (within f lo hi ∷ m) h = put_fronted false m (tail h)
put_fronted b (reaches r c ∷ m) h = (head h, put_fronted false m (tail h))

classes_fronted : (cs : List ℕ) (m : List Conjunct) → All HasRun m → Fronted true (put_all (map is_in cs ++ m))
classes_fronted [] m h = put_fronted true m h
classes_fronted (c ∷ cs) m h = (tt, classes_fronted cs m h)

-- ---- of an individual

-- its conjuncts without its classes
abbrev unclassed : Node → List Conjunct → List Conjunct
unclassed n roles = map within_of n.constraints ++ roles

constraints_have_runs : (l : List Constraint) → All HasRun (map within_of l)
constraints_have_runs [] = nil
constraints_have_runs (s ∷ l) = cons {x = within_of s} tt (constraints_have_runs l)

module _ (n : Node) (roles : List Conjunct) (h : All HasRun roles) where
  unclassed_have_runs : All HasRun (unclassed n roles)
  unclassed_have_runs = all_append (constraints_have_runs n.constraints) h

  stated_fronted : Fronted true (put_in_order (stated n roles))
  stated_fronted =
      subst (λ (l : List Conjunct). Fronted true (put_all l)) (sym (sorted_classes n.classes (unclassed n roles) unclassed_have_runs))
      (classes_fronted (sorted class_key n.classes) (sorted key (unclassed n roles)) (sorted_all (unclassed n roles) unclassed_have_runs))

  stated_run : (d r : ℕ) → run_of d (reaches r (put_in_order (stated n roles)))
      ≡ role_item d r (sorted class_key n.classes) ∷ runs_of (suc d) (sorted key (unclassed n roles))
  stated_run d r =
      ap (λ (l : List Conjunct). run_of d (reaches r (put_all l))) (sorted_classes n.classes (unclassed n roles) unclassed_have_runs)
      ∙ ap₂ (λ (cs : List ℕ) (l : List Item). role_item d r cs ∷ l)
      (put_classes (sorted class_key n.classes) (sorted key (unclassed n roles)) (sorted_all (unclassed n roles) unclassed_have_runs))
      (put_items (suc d) (sorted class_key n.classes) (sorted key (unclassed n roles)))

pub roles_have_runs : (ks : Successors) → All HasRun (roles_of ks)
roles_have_runs none = nil
roles_have_runs (successor r n under next) =
    cons {x = reaches r (put_in_order (stated n (roles_of under)))} (stated_fronted n (roles_of under) (roles_have_runs under)) (roles_have_runs next)

-- ---- arranged in front of runs at one depth

arranged_constraints : (d : ℕ) (ss : List Constraint) (l : List Conjunct) (m : List Item) → All HasRun l → Low d m →
    arranged_onto (map (listed_item d) ss) (runs_of d l ++ m) ≡ runs_of d (placed_onto (map within_of ss) l) ++ m
arranged_constraints d [] l m g h = refl
arranged_constraints d (s ∷ ss) l m g h =
    ap (insert_item (listed_item d s)) (arranged_constraints d ss l m g h)
    ∙ insert_item_lem d (listed_item d s) [] (within_of s) (placed_onto (map within_of ss) l) m refl tt (placed_all (map within_of ss) l (constraints_have_runs ss) g) h

pub arranged_below : (d : ℕ) (ks : Successors) (l : List Conjunct) (m : List Item) → All HasRun l → Low d m →
    arranged_onto (items_below d ks) (runs_of d l ++ m) ≡ runs_of d (placed_onto (roles_of ks) l) ++ m
arranged_below d none l m g h = refl
arranged_below d (successor r n under next) l m g h =
    let constraints = map (listed_item (suc d)) n.constraints in
    let kept = placed_onto (roles_of next) l in
    let have-runs = placed_all (roles_of next) l (roles_have_runs next) g in
    let low = runs_low d kept m have-runs h in
    let item = role_item d r (sorted class_key n.classes) in
    let roles = roles_have_runs under in
    ap (insert_item item)
    (onto_append constraints (items_below (suc d) under ++ items_below d next) (runs_of d l ++ m)
    ∙ ap (arranged_onto constraints)
    (onto_append (items_below (suc d) under) (items_below d next) (runs_of d l ++ m)
    ∙ ap (arranged_onto (items_below (suc d) under)) (arranged_below d next l m g h)
    ∙ arranged_below (suc d) under [] (runs_of d kept ++ m) nil low)
    ∙ arranged_constraints (suc d) n.constraints (placed_onto (roles_of under) []) (runs_of d kept ++ m) (placed_all (roles_of under) [] roles nil) low
    ∙ ap (λ (w : List Conjunct). runs_of (suc d) w ++ (runs_of d kept ++ m)) (placed_append (map within_of n.constraints) (roles_of under)))
    ∙ insert_item_lem d item (runs_of (suc d) (sorted key (unclassed n (roles_of under)))) (reaches r (put_in_order (stated n (roles_of under)))) kept m
    (stated_run n (roles_of under) roles d r) (stated_fronted n (roles_of under) roles) have-runs h

pub arranged_roles : (ks : Successors) → arranged (items_below 0 ks) ≡ runs_of 0 (sorted key (roles_of ks))
arranged_roles ks =
    arranged_onto_lem (items_below 0 ks)
    ∙ arranged_below 0 ks [] [] nil tt
    ∙ append-nil (runs_of 0 (placed_onto (roles_of ks) []))
    ∙ ap (runs_of 0) (placed_append [] (roles_of ks))
