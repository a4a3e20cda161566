-- How many individuals and constraints a normal form and its combinations have, how many facts the canonical model has, and
-- that roles and features are those of the term.
use Prim.Native.Nat.{◌*◌, ◌+◌, ◌≤◌, suc, zero, ℕ}
use mathlib.Core.Bool.{Bool, ◌&&◌}
use mathlib.Core.List.{List, [], ◌++◌, ◌∷◌, append-nil}
use mathlib.Core.Path.{◌≡◌, refl, subst, sym}
use lib.Dec.{eqb}
use lib.ListN.{length, length-append, length-map}
use native.Mathlib.Nat.{mul-add, mul-suc}
use native.Mathlib.Omega.{arith}
use Rattle.meaning.specs.Accepted.{NamedChain, count, interval_count}
use Rattle.meaning.specs.Countermodel.{canonical_model, classes_above, edges, individuals, insert_pair, pair_before, pairs}
use Rattle.meaning.specs.Countermodel.{records_below, records_of, same_pair, size}
use Rattle.meaning.specs.Intervals.{Constraint, value_of}
use Rattle.meaning.specs.Lists.{All, ◌∈◌, any, cons, counting, filter, nil}
use Rattle.meaning.specs.Model.{Fact, edge, member, value}
use Rattle.meaning.specs.NormalForm.{Form, Node, Successors, add, bare, none, normal_form, place_constraint, place_successor}
use Rattle.meaning.specs.NormalForm.{successor, with_class, with_constraint, with_successor}
use Rattle.meaning.specs.Policy.{Chain, Policy, class, end, impossible, interval, some}
use Rattle.meaning.specs.Records.{Name}
use Rattle.meaning.specs.Splitting.{constraints_below, constraints_of}
use Rattle.meaning.specs.Stated.{is_below, is_functional_feature, is_functional_role, ranges}
use Rattle.meaning.specs.Vocabulary.{Vocabulary}
use Rattle.theory.proofs.Canonical.{model_proper}
use Rattle.theory.proofs.ModelWords.{NamedFact}
use Rattle.theory.proofs.Pairs.{pairs_in_lem}
use Rattle.theory.proofs.Picks.{Parts, Picked, PickedForm, no_parts, none_picked, parts, picked}
use Rattle.theory.proofs.Refusals.{cond_all}
use Rattle.theory.proofs.Rules.{all_append, all_at, all_map, all_of, head, tail}

-- ---- a normal form is no greater than its term

-- how many successors and constraints of theirs; and of a form, its own constraints among them
abbrev pub weight : Successors → ℕ
weight none = 0
weight (successor r n under next) = suc (length n.constraints + (weight under + weight next))

abbrev pub form_weight : Form → ℕ
form_weight t = length t.node.constraints + weight t.successors

pub size_weight : (under : Successors) → size under ≤ weight under
size_weight none = omega arith
size_weight (successor r n under next) = omega (arith, size_weight under, size_weight next)

-- a constraint adds at most one
length-place_constraint-≤ : (one : Bool) (s : Constraint) (l : List Constraint) → length (place_constraint one s l) ≤ suc (length l)
length-place_constraint-≤ one s [] = omega arith
length-place_constraint-≤ one s (t ∷ l) =
    let h = length-place_constraint-≤ one s l in
    cond_all (λ (m : List Constraint). length m ≤ suc (suc (length l))) (one && eqb t.feature s.feature) (omega arith) (omega arith)

-- a successor adds at most one, and what its inner conjuncts add
place_weight : (one : Bool) (r : ℕ) (fresh : Form) (grow : Form → Form) (n : ℕ) → form_weight fresh ≡ 0 → ((t : Form) → form_weight (grow t) ≤ form_weight t + n) →
    (under : Successors) → weight (place_successor one r fresh grow under) ≤ suc (weight under + n)
place_weight one r fresh grow n z g none = omega (arith, g fresh)
place_weight one r fresh grow n z g (successor q m under next) =
    let t : Form = record { node = m; successors = under } in
    let a = g t in
    let h = place_weight one r fresh grow n z g next in
    cond_all (λ (s : Successors). weight s ≤ suc (weight (successor q m under next) + n)) (one && eqb r q) (omega arith) (omega arith)

add_weight : (K : Vocabulary) (c : Chain) (t : Form) → form_weight (add K c t) ≤ form_weight t + count c
add_weight K end t = omega arith
add_weight K (class a next) t = omega (arith, add_weight K next (with_class a t))
add_weight K (impossible next) t = omega (arith, add_weight K next t)
add_weight K (some r child next) t =
    omega (
      arith,
      add_weight K next (with_successor K r (add K child) t),
      place_weight (is_functional_role K r) r (bare (ranges K r)) (add K child) (count child) refl (add_weight K child) t.successors,
    )
add_weight K (interval f lo hi next) t =
    let s : Constraint = record { feature = f; lo = lo; hi = hi } in
    omega (arith, add_weight K next (with_constraint K s t), length-place_constraint-≤ (is_functional_feature K f) s t.node.constraints)

pub normal_weight : (K : Vocabulary) (c : Chain) → form_weight (normal_form K c) ≤ count c
unfolding normal_form
normal_weight K c = omega (arith, add_weight K c (bare []))

-- ---- nor has it more constraints than its term has intervals

-- how many constraints a form has
abbrev held : Form → ℕ
held t = length (constraints_of t)

place_held : (one : Bool) (r : ℕ) (fresh : Form) (grow : Form → Form) (n : ℕ) → held fresh ≡ 0 → ((t : Form) → held (grow t) ≤ held t + n) →
    (under : Successors) → length (constraints_below (place_successor one r fresh grow under)) ≤ length (constraints_below under) + n
place_held one r fresh grow n z g none = simp append-nil (omega (arith, g fresh))
place_held one r fresh grow n z g (successor q m under next) =
    let t : Form = record { node = m; successors = under } in
    let h = place_held one r fresh grow n z g next in
    cond_all (λ (s : Successors). length (constraints_below s) ≤ length (constraints_below (successor q m under next)) + n) (one && eqb r q)
    (simp length-append (omega (arith, simp length-append at (g t)))) (simp length-append (omega arith))

add_held : (K : Vocabulary) (c : Chain) (t : Form) → held (add K c t) ≤ held t + interval_count c
add_held K end t = omega arith
add_held K (class a next) t = add_held K next (with_class a t)
add_held K (impossible next) t = add_held K next t
add_held K (some r child next) t =
    let a = place_held (is_functional_role K r) r (bare (ranges K r)) (add K child) (interval_count child) refl (add_held K child) t.successors in
    let b = simp length-append at (add_held K next (with_successor K r (add K child) t)) in
    simp length-append (omega arith)
add_held K (interval f lo hi next) t =
    let s : Constraint = record { feature = f; lo = lo; hi = hi } in
    let a = length-place_constraint-≤ (is_functional_feature K f) s t.node.constraints in
    let b = simp length-append at (add_held K next (with_constraint K s t)) in
    simp length-append (omega arith)

pub normal_intervals : (K : Vocabulary) (c : Chain) → length (constraints_of (normal_form K c)) ≤ interval_count c
unfolding normal_form
normal_intervals K c = omega (arith, add_held K c (bare []))

-- ---- its roles are among 1 to R, its features among 1 to F

module _ (R F : ℕ) where
  abbrev pub NamedConstraints : List Constraint → Type 0
  NamedConstraints l = All (λ s. Name F s.feature) l

  abbrev pub NamedSuccessors : Successors → Type 0
  NamedSuccessors none = Unit {0}
  NamedSuccessors (successor r n under next) = Name R r × NamedConstraints n.constraints × NamedSuccessors under × NamedSuccessors next

  pub record NamedForm (t : Form) : Type 0 where
    pub node : NamedConstraints t.node.constraints
    pub successors : NamedSuccessors t.successors

  constraint_named : (one : Bool) (s : Constraint) → Name F s.feature → (l : List Constraint) → NamedConstraints l → NamedConstraints (place_constraint one s l)
  constraint_named one s h [] k = cons h nil
  constraint_named one s h (t ∷ l) k =
      cond_all NamedConstraints (one && eqb t.feature s.feature) (cons (head k) (tail k)) (cons (head k) (constraint_named one s h l (tail k)))

  successor_named : (one : Bool) (r : ℕ) (fresh : Form) (grow : Form → Form) → Name R r → NamedForm fresh → ((t : Form) → NamedForm t → NamedForm (grow t)) →
      (under : Successors) → NamedSuccessors under → NamedSuccessors (place_successor one r fresh grow under)
  successor_named one r fresh grow h f g none k = let a = g fresh f in (h, a.node, a.successors, tt)
  successor_named one r fresh grow h f g (successor q n under next) k =
      let a = g (record { node = n; successors = under }) (record { node = k.1; successors = k.2 }) in
      cond_all NamedSuccessors (one && eqb r q) (k.0, a.node, a.successors, k.3) (k.0, k.1, k.2, successor_named one r fresh grow h f g next k.3)

  add_named : (N : ℕ) (K : Vocabulary) (c : Chain) → NamedChain N R F c → (t : Form) → NamedForm t → NamedForm (add K c t)
  add_named N K end h t k = k
  add_named N K (class a next) h t k = add_named N K next h.1 (with_class a t) (record { node = k.node; successors = k.successors })
  add_named N K (impossible next) h t k = add_named N K next h t k
  add_named N K (some r child next) h t k =
      add_named N K next h.2 (with_successor K r (add K child) t) (record {
        node = k.node;
        successors = successor_named (is_functional_role K r) r (bare (ranges K r)) (add K child) h.0 (record { node = nil; successors = tt })
            (add_named N K child h.1) t.successors k.successors;
      })
  add_named N K (interval f lo hi next) h t k =
      let s : Constraint = record { feature = f; lo = lo; hi = hi } in
      add_named N K next h.1 (with_constraint K s t)
      (record { node = constraint_named (is_functional_feature K f) s h.0 t.node.constraints k.node; successors = k.successors })

  pub normal_named : (N : ℕ) (K : Vocabulary) (c : Chain) → NamedChain N R F c → NamedForm (normal_form K c)
  unfolding normal_form
  normal_named N K c h = add_named N K c h (bare []) (record { node = nil; successors = tt })

-- ---- and so is each combination of it

module _ {Q : Policy} where
  parts_length : {l m : List Constraint} → Parts Q l m → length m ≡ length l
  parts_length no_parts = refl
  parts_length (parts a b) = omega (arith, parts_length b)

  weight_picked : {under inner : Successors} → Picked Q under inner → weight inner ≡ weight under
  weight_picked none_picked = refl
  weight_picked (picked a b c) = omega (arith, parts_length a.constraints, weight_picked b, weight_picked c)

  pub form_picked : {t u : Form} → PickedForm Q t u → form_weight u ≡ form_weight t
  form_picked p = omega (arith, parts_length p.node.constraints, weight_picked p.successors)

  module _ (R F : ℕ) where
    parts_named : {l m : List Constraint} → Parts Q l m → NamedConstraints R F l → NamedConstraints R F m
    parts_named no_parts h = nil
    parts_named (parts a b) h = cons (subst (λ (f : ℕ). Name F f) (sym a.inside.same) (head h)) (parts_named b (tail h))

    successors_named : {under inner : Successors} → Picked Q under inner → NamedSuccessors R F under → NamedSuccessors R F inner
    successors_named none_picked h = tt
    successors_named (picked a b c) h = (h.0, parts_named a.constraints h.1, successors_named b h.2, successors_named c h.3)

    pub named_picked : {t u : Form} → PickedForm Q t u → NamedForm R F t → NamedForm R F u
    named_picked p h = record { node = parts_named p.node.constraints h.node; successors = successors_named p.successors h.successors }

-- ---- how many facts the canonical model has

length-filter-≤ : (p : ℕ → Bool) (l : List ℕ) → length (filter p l) ≤ length l
length-filter-≤ p [] = omega arith
length-filter-≤ p (x ∷ l) = let h = length-filter-≤ p l in cond_all (λ (m : List ℕ). length m ≤ suc (length l)) (p x) (omega arith) (omega arith)

length_counting : (from n : ℕ) → length (counting from n) ≡ n
length_counting from zero = refl
length_counting from (suc n) = omega (arith, length_counting (suc from) n)

length-insert_pair-≤ : (s : Constraint) (l : List Constraint) → length (insert_pair s l) ≤ suc (length l)
length-insert_pair-≤ s [] = omega arith
length-insert_pair-≤ s (t ∷ l) =
    let h = length-insert_pair-≤ s l in
    let P : List Constraint → Type 0 = λ m. length m ≤ suc (suc (length l)) in
    cond_all P (same_pair s t) (omega arith) (cond_all P (pair_before s t) (omega arith) (omega arith))

length-pairs-≤ : (l : List Constraint) → length (pairs l) ≤ length l
length-pairs-≤ [] = omega arith
length-pairs-≤ (s ∷ l) = omega (arith, length-pairs-≤ l, length-insert_pair-≤ s (pairs l))

module _ (K : Vocabulary) where
  classes_few : (n : Node) → length (classes_above K n) ≤ K.classes
  classes_few n = omega (arith, length-filter-≤ (λ b. any (λ c. is_below K c b) n.classes) (counting 1 K.classes), length_counting 1 K.classes)

  -- one individual's: its classes, its values, its edges
  node_few : (n : Node) (under : Successors) (i : ℕ) → length (records_of K n under i) ≤ K.classes + length n.constraints + length (edges under i (suc i))
  node_few n under i = simp (length-append, length-map) (omega (arith, classes_few n, length-pairs-≤ n.constraints))

  below_few : (under : Successors) (i k : ℕ) → length (edges under i k) + length (records_below K under k) ≤ K.classes * size under + weight under
  below_few none i k = omega arith
  below_few (successor r n under next) i k =
      let inner = records_below K under (suc k) in
      let later = records_below K next (suc k + size under) in
      omega (
        arith,
        node_few n under k,
        below_few under k (suc k),
        below_few next i (suc k + size under),
        length-append (records_of K n under k) (inner ++ later),
        length-append inner later,
        mul-add K.classes (1 + size under) (size next),
        mul-add K.classes 1 (size under),
      )

  pub length-canonical_model-≤ : (t : Form) → length (canonical_model K t) ≤ K.classes * individuals t + form_weight t
  unfolding canonical_model
  length-canonical_model-≤ t =
      omega (
        arith,
        node_few t.node t.successors 1,
        below_few t.successors 1 2,
        mul-suc K.classes (size t.successors),
        length-append (records_of K t.node t.successors 1) (records_below K t.successors 2),
      )

-- ---- each of them is named

all_kept : {P : ℕ → Type 0} (p : ℕ → Bool) {l : List ℕ} → All P l → All P (filter p l)
all_kept p nil = nil
all_kept {P} p (cons {x = x} h t) = cond_all (All P) (p x) (cons h (all_kept p t)) (all_kept p t)

counting_named : (N from n : ℕ) → 1 ≤ from → from + n ≤ suc N → All (Name N) (counting from n)
counting_named N from zero a b = nil
counting_named N from (suc n) a b = cons {x = from} (a, omega arith) (counting_named N (suc from) n (omega arith) (omega arith))

module _ (R F : ℕ) (K : Vocabulary) where
  -- by the counts alone
  abbrev Counted : Fact → Type 0
  Counted (member a i) = Name K.classes a
  Counted (edge r i j) = Name R r
  Counted (value f i v) = Name F f

  edges_counted : (under : Successors) (i k : ℕ) → NamedSuccessors R F under → All Counted (edges under i k)
  edges_counted none i k h = nil
  edges_counted (successor r n under next) i k h = cons {x = edge r i k} h.0 (edges_counted next i (suc k + size under) h.3)

  node_counted : (n : Node) (under : Successors) (i : ℕ) → NamedConstraints R F n.constraints → NamedSuccessors R F under → All Counted (records_of K n under i)
  node_counted n under i h k =
      all_append (all_map (λ c. member c i) (all_kept (λ b. any (λ c. is_below K c b) n.classes) (counting_named K.classes 1 K.classes (omega arith) (omega arith))))
      (all_append (all_map (λ s. value s.feature i (value_of s)) (pairs_in_lem (λ f v. Name F f) n.constraints h)) (edges_counted under i (suc i) k))

  below_counted : (under : Successors) (k : ℕ) → NamedSuccessors R F under → All Counted (records_below K under k)
  below_counted none k h = nil
  below_counted (successor r n under next) k h =
      all_append (node_counted n under k h.1 h.2) (all_append (below_counted under (suc k) h.2) (below_counted next (suc k + size under) h.3))

  model_counted : (t : Form) → NamedForm R F t → All Counted (canonical_model K t)
  unfolding canonical_model
  model_counted t h = all_append (node_counted t.node t.successors 1 h.node h.successors) (below_counted t.successors 2 h.successors)

  pub model_named : (t : Form) → NamedForm R F t → All (NamedFact K.classes R F (individuals t)) (canonical_model K t)
  model_named t h = all_of (canonical_model K t) (λ x m. go x m (all_at (model_counted t h) m))
    where
      go : (x : Fact) → x ∈ canonical_model K t → Counted x → NamedFact K.classes R F (individuals t) x
      go (member a i) m c = (c, (model_proper K t).classes a i m)
      go (edge r i j) m c = (c, (model_proper K t).sources r i j m, (model_proper K t).targets r i j m)
      go (value f i v) m c = (c, (model_proper K t).holders f i v m)
