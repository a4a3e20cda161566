-- How many pieces a constraint has, and how many combinations a normal form: the product of the numbers of pieces, and at least one.
use Prim.Native.Nat.{◌*◌, ◌+◌, ◌≤◌, pred, suc, ℕ}
use mathlib.Core.Bool.{Bool, cond, false, true}
use mathlib.Core.List.{List, [], ◌++◌, ◌∷◌, map}
use mathlib.Core.Path.{◌∙◌, ◌≡◌, refl, sym}
use lib.Dec.{ltb}
use lib.ListN.{length, length-append, length-map}
use native.Mathlib.Nat.{mul_assoc, mul-pos, one-mul, suc-mul, zero-mul}
use native.Mathlib.Omega.{arith}
use Rattle.meaning.specs.Intervals.{Constraint}
use Rattle.meaning.specs.Lists.{◌∈◌, flat_map}
use Rattle.meaning.specs.NormalForm.{Form, Node, Successors, none, successor}
use Rattle.meaning.specs.Policy.{Policy}
use Rattle.meaning.specs.Splitting.{choices, combination_count, combinations, constraints_below, constraints_of, pieces}
use Rattle.meaning.specs.Splitting.{pieces_at, pieces_from, points, product, split_node, split_successors, wide, wide_neighbours}
use Rattle.theory.proofs.Points.{lo_point}
use Rattle.theory.proofs.Rules.{any_none}

-- SPECIFICATION 7.2: their number is the size of X plus the neighbours that differ by 2 or more
count_from : (f x : ℕ) (l : List ℕ) → length (pieces_from f x l) ≡ suc (length l) + wide x l
count_from f x [] = refl
count_from f x (y ∷ l) = go (ltb (suc x) y) (count_from f y l)
  where
    go : (b : Bool) → length (pieces_from f y l) ≡ suc (length l) + wide y l →
        suc (length (cond b (record { feature = f; lo = suc x; hi = pred y } ∷ []) [] ++ pieces_from f y l)) ≡ suc (suc (length l)) + (cond b 1 0 + wide y l)
    go true h = omega arith
    go false h = omega arith

pub count_pieces : (Q : Policy) (s : Constraint) → length (pieces Q s) ≡ length (points Q s) + wide_neighbours (points Q s)
count_pieces Q s = go (points Q s)
  where
    go : (X : List ℕ) → length (pieces_at s.feature X) ≡ length X + wide_neighbours X
    go [] = refl
    go (x ∷ l) = count_from s.feature x l

-- the lengths of nested loops
module _ {A B : Type 0} (f : A → List B) (n : ℕ) (h : (x : A) → length (f x) ≡ n) where
  pub length_flat_map : (l : List A) → length (flat_map f l) ≡ length l * n
  length_flat_map [] = sym (zero-mul n)
  length_flat_map (x ∷ l) = rw (length-append, suc-mul, length_flat_map l, h x) (omega arith)

pub length_each : {A B C : Type 0} (f : A → B → C) (l : List A) (m : List B) → length (flat_map (λ x. map (f x) m) l) ≡ length l * length m
length_each f l m = length_flat_map (λ x. map (f x) m) (length m) (λ x. length-map m (f x)) l

module _ (Q : Policy) where
  pub product_append : (l m : List Constraint) → product Q (l ++ m) ≡ product Q l * product Q m
  product_append [] m = sym (one-mul _)
  product_append (s ∷ l) m = rw (product_append l m) (sym (mul_assoc _ _ _))

  pub count_choices : (l : List Constraint) → length (choices Q l) ≡ product Q l
  count_choices [] = refl
  count_choices (s ∷ l) = length_each ◌∷◌ (pieces Q s) (choices Q l) ∙ rw (count_choices l)

  pub count_node : (n : Node) → length (split_node Q n) ≡ product Q n.constraints
  count_node n = length-map (choices Q n.constraints) _ ∙ count_choices n.constraints

  pub count_successors : (under : Successors) → length (split_successors Q under) ≡ product Q (constraints_below under)
  count_successors none = refl
  count_successors (successor r n under next) =
      length_flat_map _ _ (λ m. length_each (successor r m) (split_successors Q under) (split_successors Q next)) (split_node Q n)
      ∙ rw (count_node n, count_successors under, count_successors next, product_append, product_append)

  pub count_combinations : (t : Form) → length (combinations Q t) ≡ combination_count Q t
  unfolding combinations combination_count
  count_combinations t =
      length_each (λ n under. record { node = n; successors = under }) (split_node Q t.node) (split_successors Q t.successors)
      ∙ rw (count_node t.node, count_successors t.successors, product_append)

  -- there is a first combination
  pub pieces_some : (s : Constraint) → 1 ≤ length (pieces Q s)
  pieces_some s = rw count_pieces (go (points Q s) (lo_point Q s))
    where
      go : (X : List ℕ) → s.lo ∈ X → 1 ≤ length X + wide_neighbours X
      go [] m = absurd (any_none m)
      go (x ∷ l) m = omega arith

  pub product_some : (l : List Constraint) → 1 ≤ product Q l
  product_some [] = omega arith
  product_some (s ∷ l) = mul-pos (pieces_some s) (product_some l)

  pub combinations_some : (t : Form) → 1 ≤ length (combinations Q t)
  unfolding combination_count
  combinations_some t = rw count_combinations (product_some (constraints_of t))
