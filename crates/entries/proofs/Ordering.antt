-- Lists compared: beginnings of one length, the same first numbers. Assumes nothing.
use Prim.Native.Nat.{◌<◌, ℕ}
use mathlib.Core.List.{List, [], ◌++◌, ◌∷◌}
use mathlib.Core.Path.{◌∙◌, ◌≡◌, ap, refl}
use lib.ListN.{get_or, length}
use native.Mathlib.Omega.{arith}
use borrow.Author.Tests.{eq-eqb, lt-ltb, ne_eqb}
use Rattle.std.proofs.lemmas.Cmp.{nat_cmp_total, tied_itself}
use Rattle.std.specs.Ordering.{nat_cmp, ordering_then}
use Rattle.std.specs.declared.cmp.Ordering.{Ordering}
use Rattle.std.specs.declared.cmp.Ordering.TheVariants.{Equal, Greater, Less}
use Rattle.entries.specs.Order.{order_of}
use Rattle.entries.specs.Entries.{name_fields, rank_of}
use Rattle.entries.specs.declared.Fields.{Fields}

pub rank_constraint : (k : ℕ) → k ≡ 4 → 2 ≡ rank_of k
rank_constraint k e = rw (eq-eqb k 4 e)

pub rank_role : (k : ℕ) → (k ≡ 4 → ⊥) → 3 ≡ rank_of k
rank_role k n = rw (ne_eqb k 4 n)

-- ---- lists

-- beginnings of one length decide, or what follows them
pub beginnings : (p q l m : List ℕ) → length p ≡ length q → order_of (p ++ l) (q ++ m) ≡ ordering_then (order_of p q) (order_of l m)
beginnings [] [] l m e = refl
beginnings [] (y ∷ q) l m e = absurd (omega arith)
beginnings (x ∷ p) [] l m e = absurd (omega arith)
beginnings (x ∷ p) (y ∷ q) l m e =
    ap (ordering_then (nat_cmp x y)) (beginnings p q l m (omega arith)) ∙ regroup (nat_cmp x y) (order_of p q) (order_of l m)
  where
    regroup : (a b c : Ordering) → ordering_then a (ordering_then b c) ≡ ordering_then (ordering_then a b) c
    regroup Less b c = refl
    regroup Equal b c = refl
    regroup Greater b c = refl

pub alike : (x : ℕ) (l m : List ℕ) → order_of (x ∷ l) (x ∷ m) ≡ order_of l m
alike x l m = ap (λ (o : Ordering). ordering_then o (order_of l m)) (tied_itself nat_cmp_total x)

pub less_first : (x y : ℕ) (l m : List ℕ) → x < y → order_of (x ∷ l) (y ∷ m) ≡ Less
less_first x y l m h = rw (lt-ltb x y h)

pub depth_same : (a b : Fields) (p q : ℕ) → p ∷ name_fields a [] ≡ q ∷ name_fields b [] → a.depth ≡ b.depth
depth_same a b p q e = ap (λ (l : List ℕ). get_or l 4 0) e
