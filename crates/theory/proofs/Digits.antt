-- The digits of a combination, and the form with the pieces that they name.
use Prim.Native.Nat.{◌*◌, ◌+◌, suc, ℕ}
use mathlib.Core.List.{List, [], ◌∷◌}
use lib.ListN.{length}
use Rattle.meaning.specs.Intervals.{Constraint}
use Rattle.meaning.specs.Lists.{At}
use Rattle.meaning.specs.NormalForm.{Form, Node, Successors, none, successor}
use Rattle.meaning.specs.Policy.{Policy}
use Rattle.meaning.specs.Splitting.{constraints_below, pieces, product}

-- v o, v (o + 1), .. are the pieces that the digits d o, d (o + 1), .. name, one for each constraint
abbrev pub Takes : Policy → (ℕ → ℕ) → (ℕ → Constraint) → ℕ → List Constraint → Type 0
Takes Q d v o [] = Unit {0}
Takes Q d v o (s ∷ l) = At (v o) (pieces Q s) (d o) × Takes Q d v (suc o) l

-- the digits as one number, the last varying fastest (SPECIFICATION 7.3)
abbrev pub number : Policy → (ℕ → ℕ) → ℕ → List Constraint → ℕ
number Q d o [] = 0
number Q d o (s ∷ l) = d o * product Q l + number Q d (suc o) l

-- the form with v o, v (o + 1), .. in place of its constraints, which go by individual, then by place (SPECIFICATION 7.3)
abbrev pub fill_constraints : (ℕ → Constraint) → ℕ → List Constraint → List Constraint
fill_constraints v o [] = []
fill_constraints v o (s ∷ l) = v o ∷ fill_constraints v (suc o) l

abbrev pub fill_node : (ℕ → Constraint) → ℕ → Node → Node
fill_node v o n = record { classes = n.classes; constraints = fill_constraints v o n.constraints }

abbrev pub fill_successors : (ℕ → Constraint) → ℕ → Successors → Successors
fill_successors v o none = none
fill_successors v o (successor r n under next) =
    let a = o + length n.constraints in
    successor r (fill_node v o n) (fill_successors v a under) (fill_successors v (a + length (constraints_below under)) next)

abbrev pub fill : (ℕ → Constraint) → Form → Form
fill v t = record { node = fill_node v 0 t.node; successors = fill_successors v (length t.node.constraints) t.successors }
