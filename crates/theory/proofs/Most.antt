-- A constraint has at most two pieces for each end of the other policy on its feature, and three more.
use Prim.Native.Nat.{◌*◌, ◌+◌, ◌-◌, ◌≤◌, suc, ℕ}
use mathlib.Core.Bool.{Bool}
use mathlib.Core.List.{List, [], ◌∷◌}
use lib.Dec.{eqb, leb, ltb}
use lib.ListN.{length}
use native.Mathlib.Omega.{arith}
use Rattle.meaning.specs.Intervals.{Constraint, is_within}
use Rattle.meaning.specs.Lists.{filter, flat_map}
use Rattle.meaning.specs.Policy.{Policy}
use Rattle.meaning.specs.Splitting.{ends, insert, insert_all, pieces, points, wide, wide_neighbours}
use Rattle.theory.proofs.Count.{count_pieces}
use Rattle.theory.proofs.Refusals.{cond_all}

-- ---- X has lo, hi and at most every end

pub insert_most : (e : ℕ) (l : List ℕ) → length (insert e l) ≤ suc (length l)
insert_most e [] = omega arith
insert_most e (x ∷ l) =
    let h = insert_most e l in
    cond_all (λ (m : List ℕ). length m ≤ suc (suc (length l))) (ltb e x) (omega arith)
    (cond_all (λ (m : List ℕ). length m ≤ suc (suc (length l))) (eqb e x) (omega arith) (omega arith))

inserts_most : (es l : List ℕ) → length (insert_all es l) ≤ length es + length l
inserts_most [] l = omega arith
inserts_most (e ∷ es) l = omega (arith, inserts_most es (insert e l), insert_most e l)

filter_most : (p : ℕ → Bool) (l : List ℕ) → length (filter p l) ≤ length l
filter_most p [] = omega arith
filter_most p (x ∷ l) =
    let h = filter_most p l in
    cond_all (λ (m : List ℕ). length m ≤ suc (length l)) (p x) (omega arith) (omega arith)

points_most : (Q : Policy) (s : Constraint) → length (points Q s) ≤ length (flat_map (ends s.feature) Q) + 2
points_most Q s =
    let E = flat_map (ends s.feature) Q in
    let F = filter (is_within s.lo s.hi) E in
    omega (arith, inserts_most F (insert s.hi (s.lo ∷ [])), filter_most (is_within s.lo s.hi) E, insert_most s.hi (s.lo ∷ []))

-- ---- a piece for each member of X, and at most one between two

gaps_most : (x : ℕ) (l : List ℕ) → wide x l ≤ length l
gaps_most x [] = omega arith
gaps_most x (y ∷ l) =
    let h = gaps_most y l in
    cond_all (λ (n : ℕ). n + wide y l ≤ suc (length l)) (leb (suc (suc x)) y) (omega arith) (omega arith)

pub neighbours_most : (X : List ℕ) → length X + wide_neighbours X ≤ 2 * length X - 1
neighbours_most [] = omega arith
neighbours_most (x ∷ l) = omega (arith, gaps_most x l)

pub pieces_most : (Q : Policy) (s : Constraint) → length (pieces Q s) ≤ 2 * length (flat_map (ends s.feature) Q) + 3
pieces_most Q s = omega (arith, count_pieces Q s, neighbours_most (points Q s), points_most Q s)
