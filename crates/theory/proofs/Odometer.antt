-- The combination at a number has the pieces that the number's digits name.
use Prim.Native.Nat.{◌*◌, ◌+◌, ◌<◌, suc, zero, ℕ}
use mathlib.Core.List.{List, [], ◌++◌, ◌∷◌, map}
use mathlib.Core.Path.{◌∙◌, ◌≡◌, ap, refl, subst, sym}
use lib.ListN.{get_or, length, length-map}
use native.Mathlib.Nat.{add-mul, mul_assoc, suc-mul, zero-add, zero-mul}
use native.Mathlib.Omega.{arith}
use Rattle.meaning.specs.Intervals.{Constraint}
use Rattle.meaning.specs.Lists.{At, at_here, at_there, flat_map}
use Rattle.meaning.specs.NormalForm.{Form, Node, Successors, none, successor}
use Rattle.meaning.specs.Policy.{Policy}
use Rattle.meaning.specs.Splitting.{choices, combinations, constraints_below, constraints_of, product, split_node}
use Rattle.meaning.specs.Splitting.{split_successors}
use Rattle.theory.proofs.Count.{count_choices, count_successors, length_each, product_append}
use Rattle.theory.proofs.Digits.{Takes, fill, fill_constraints, fill_node, fill_successors, number}

module _ {A : Type 0} {x : A} where
  pub at_lt : {l : List A} {i : ℕ} → At x l i → i < length l
  at_lt (at_here e) = omega arith
  at_lt (at_there a) = let b = at_lt a in omega arith

  pub at_get_or : {l : List A} {i : ℕ} → At x l i → (y : A) → get_or l i y ≡ x
  at_get_or (at_here e) y = sym e
  at_get_or (at_there a) y = at_get_or a y

  pub get_or_at : (l : List A) (i : ℕ) (y : A) → i < length l → get_or l i y ≡ x → At x l i
  get_or_at [] i y b e = absurd (omega arith)
  get_or_at (z ∷ l) zero y b e = at_here (sym e)
  get_or_at (z ∷ l) (suc i) y b e = at_there (get_or_at l i y (omega arith) e)

  at_left : {l : List A} {i : ℕ} (m : List A) → At x l i → At x (l ++ m) i
  at_left m (at_here e) = at_here e
  at_left m (at_there a) = at_there (at_left m a)

  at_right : (l : List A) {m : List A} {i : ℕ} → At x m i → At x (l ++ m) (length l + i)
  at_right [] a = rw zero-add a
  at_right (y ∷ l) {m} {i} a = subst (λ (k : ℕ). At x (y ∷ (l ++ m)) k) (omega arith) (at_there (at_right l a))

  pub at_map : {B : Type 0} (f : A → B) {l : List A} {i : ℕ} → At x l i → At (f x) (map f l) i
  at_map f (at_here e) = at_here (ap f e)
  at_map f (at_there a) = at_there (at_map f a)

-- the place in nested loops
module _ {A B : Type 0} {x : A} {y : B} (f : A → List B) (n : ℕ) (h : (z : A) → length (f z) ≡ n) {j : ℕ} (b : At y (f x) j) where
  pub at_flat_map : {l : List A} {i : ℕ} → At x l i → At y (flat_map f l) (i * n + j)
  at_flat_map (at_here {l = l} e) = rw (zero-mul, zero-add) (at_left (flat_map f l) (subst (λ z. At y (f z) j) e b))
  at_flat_map (at_there {y = z} {l = l} {i = i} a) =
      subst (λ (k : ℕ). At y (f z ++ flat_map f l) k) (omega (arith, h z, suc-mul i n)) (at_right (f z) (at_flat_map a))

pub at_each : {A B C : Type 0} (f : A → B → C) {x : A} {y : B} {l : List A} {m : List B} {i j : ℕ} (n : ℕ) → length m ≡ n →
    At x l i → At y m j → At (f x y) (flat_map (λ z. map (f z) m) l) (i * n + j)
at_each f {x} {m = m} n e a b = at_flat_map (λ z. map (f z) m) n (λ z. length-map m (f z) ∙ e) (at_map (f x) b) a

module _ (Q : Policy) (d : ℕ → ℕ) where
  pub number_append : (o : ℕ) (l m : List Constraint) → number Q d o (l ++ m) ≡ number Q d o l * product Q m + number Q d (o + length l) m
  number_append o [] m = rw (zero-mul, zero-add) (ap (λ k. number Q d k m) (omega arith))
  number_append o (s ∷ l) m =
      rw (product_append Q l m, number_append (suc o) l m)
      (omega (arith, add-mul (d o * product Q l) (number Q d (suc o) l) (product Q m), mul_assoc (d o) (product Q l) (product Q m), same))
    where
      same : number Q d (suc o + length l) m ≡ number Q d (o + suc (length l)) m
      same = ap (λ k. number Q d k m) (omega arith)

  module _ (v : ℕ → Constraint) where
    pub takes_append : (o : ℕ) (l m : List Constraint) → Takes Q d v o (l ++ m) → Takes Q d v o l × Takes Q d v (o + length l) m
    takes_append o [] m t = (tt, subst (λ (k : ℕ). Takes Q d v k m) (omega arith) t)
    takes_append o (s ∷ l) m t =
        let r = takes_append (suc o) l m t.1 in
        ((t.0, r.0), subst (λ (k : ℕ). Takes Q d v k m) (omega arith) r.1)

    pub choices_at : (o : ℕ) (l : List Constraint) → Takes Q d v o l → At (fill_constraints v o l) (choices Q l) (number Q d o l)
    choices_at o [] t = at_here refl
    choices_at o (s ∷ l) t = at_each ◌∷◌ (product Q l) (count_choices Q l) t.0 (choices_at (suc o) l t.1)

    pub number_lt : (o : ℕ) (l : List Constraint) → Takes Q d v o l → number Q d o l < product Q l
    number_lt o l t = rw (← count_choices Q l) (at_lt (choices_at o l t))

    node_at : (o : ℕ) (n : Node) → Takes Q d v o n.constraints → At (fill_node v o n) (split_node Q n) (number Q d o n.constraints)
    node_at o n t = at_map (λ l. record { classes = n.classes; constraints = l }) (choices_at o n.constraints t)

    successors_at : (o : ℕ) (under : Successors) → Takes Q d v o (constraints_below under) → At (fill_successors v o under) (split_successors Q under) (number Q d o (constraints_below under))
    successors_at o none t = at_here refl
    successors_at o (successor r n under next) t =
        let a = takes_append o n.constraints (constraints_below under ++ constraints_below next) t in
        let b = takes_append (o + length n.constraints) (constraints_below under) (constraints_below next) a.1 in
        rw (number_append, number_append, product_append)
        (at_flat_map _ _ (λ m. length_each (successor r m) (split_successors Q under) (split_successors Q next) ∙ rw (count_successors Q under, count_successors Q next))
        (at_each (successor r (fill_node v o n)) _ (count_successors Q next) (successors_at (o + length n.constraints) under b.0) (successors_at (o + length n.constraints + length (constraints_below under)) next b.1))
        (node_at o n a.0))

    -- the digits' number is the place of the combination that takes their pieces
    pub combination_at : (t : Form) → Takes Q d v 0 (constraints_of t) → At (fill v t) (combinations Q t) (number Q d 0 (constraints_of t))
    unfolding combinations
    combination_at t h =
        let a = takes_append 0 t.node.constraints (constraints_below t.successors) h in
        rw (number_append, zero-add)
        (at_each (λ n under. record { node = n; successors = under }) _ (count_successors Q t.successors)
        (node_at 0 t.node a.0) (successors_at _ t.successors (rw zero-add at a.1)))
