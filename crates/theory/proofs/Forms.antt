-- What a normal form says of an individual of an interpretation: its classes, a value for each constraint, a value of each role.
use Prim.Native.Nat.{ℕ}
use Rattle.meaning.specs.Interpretation.{Interpretation}
use Rattle.meaning.specs.Intervals.{Constraint, Within}
use Rattle.meaning.specs.Lists.{All}
use Rattle.meaning.specs.NormalForm.{Form, Node, Successors, none, successor}

abbrev pub Has : Interpretation → ℕ → Constraint → Type 0
Has I d s = (v : ℕ) × I.has_value s.feature d v × Within s.lo s.hi v

pub record HoldsNode (I : Interpretation) (n : Node) (d : ℕ) : Type 0 where
  pub classes : All (λ c. I.in_class c d) n.classes
  pub constraints : All (Has I d) n.constraints

abbrev pub HoldsSuccessors : Interpretation → Successors → ℕ → Type 0
HoldsSuccessors I none d = Unit {0}
HoldsSuccessors I (successor r n under next) d =
    ((e : ℕ) × I.by_role r d e × HoldsNode I n e × HoldsSuccessors I under e) × HoldsSuccessors I next d

pub record HoldsForm (I : Interpretation) (t : Form) (d : ℕ) : Type 0 where
  pub node : HoldsNode I t.node d
  pub successors : HoldsSuccessors I t.successors d
