-- The constraints of the tables in the place of their pieces: the combination is then the form itself.
use Prim.Native.Nat.{◌+◌, suc, zero, ℕ}
use mathlib.Core.List.{List, [], ◌++◌, ◌∷◌, map}
use mathlib.Core.Path.{◌≡◌, ap, ap₂, refl, subst, sym}
use native.Mathlib.Omega.{arith}
use lib.ListN.{length}
use Rattle.layout.specs.Tables.{constraint_at}
use Rattle.meaning.specs.Intervals.{Constraint}
use Rattle.meaning.specs.Lists.{counting}
use Rattle.meaning.specs.NormalForm.{Form, Node, Successors, none, successor}
use Rattle.meaning.specs.Splitting.{constraints_below, constraints_of}
use Rattle.splitting.specs.Constraints.{first_constraints}
use Rattle.theory.proofs.Digits.{fill, fill_constraints, fill_node, fill_successors}

-- v o, v (o + 1), .. are the constraints
abbrev Same : (ℕ → Constraint) → ℕ → List Constraint → Type 0
Same v o [] = Unit {0}
Same v o (s ∷ l) = (v o ≡ s) × Same v (suc o) l

module _ (v : ℕ → Constraint) where
  same_append : (o : ℕ) (l m : List Constraint) → Same v o (l ++ m) → Same v o l × Same v (o + length l) m
  same_append o [] m h = (tt, subst (λ (k : ℕ). Same v k m) (omega arith) h)
  same_append o (s ∷ l) m h =
      let r = same_append (suc o) l m h.1 in
      ((h.0, r.0), subst (λ (k : ℕ). Same v k m) (omega arith) r.1)

  same_intervals : (o : ℕ) (l : List Constraint) → Same v o l → fill_constraints v o l ≡ l
  same_intervals o [] h = refl
  same_intervals o (s ∷ l) h = ap₂ (λ x k. x ∷ k) h.0 (same_intervals (suc o) l h.1)

  same_node : (o : ℕ) (n : Node) → Same v o n.constraints → fill_node v o n ≡ n
  same_node o n h = ap (node n.classes) (same_intervals o n.constraints h)
    where
      node : List ℕ → List Constraint → Node
      node cs l = record { classes = cs; constraints = l }

  same_successors : (o : ℕ) (ks : Successors) → Same v o (constraints_below ks) → fill_successors v o ks ≡ ks
  same_successors o none h = refl
  same_successors o (successor r n under next) h =
      let a = same_append o n.constraints (constraints_below under ++ constraints_below next) h in
      let b = same_append (o + length n.constraints) (constraints_below under) (constraints_below next) a.1 in
      rw (same_node o n a.0, same_successors (o + length n.constraints) under b.0, same_successors (o + length n.constraints + length (constraints_below under)) next b.1)

  same_form : (F : Form) → Same v 0 (constraints_of F) → fill v F ≡ F
  same_form F h =
      let a = same_append 0 F.node.constraints (constraints_below F.successors) h in
      let e : 0 + length F.node.constraints ≡ length F.node.constraints = omega arith in
      ap₂ form (same_node 0 F.node a.0) (same_successors _ F.successors (rw e at a.1))
    where
      form : Node → Successors → Form
      form n ks = record { node = n; successors = ks }

same_at : (w : List ℕ) (o n : ℕ) → Same (constraint_at w) o (map (constraint_at w) (counting o n))
same_at w o zero = tt
same_at w o (suc n) = (refl, same_at w (suc o) n)

pub whole_form : (w : List ℕ) (n : ℕ) (F : Form) → constraints_of F ≡ first_constraints w n → fill (constraint_at w) F ≡ F
whole_form w n F e = same_form (constraint_at w) F (subst (Same (constraint_at w) 0) (sym e) (same_at w 0 n))
