-- `add_interval`: what is placed from i on is placed from first on.
use Prim.Native.Nat.{◌-◌}
use Rattle.normal_form.proofs.Laws.{Placing}
use Rattle.normal_form.proofs.add_interval.Given as goal

abbrev pub invariant-loop-i : goal.invariant-loop-i
invariant-loop-i l = Placing l.one l.x l.first l.top l.f.0 l.lo l.hi l.initial.work l.work l.i

abbrev pub decreases-loop-i : goal.decreases-loop-i
decreases-loop-i l = l.top - l.i
