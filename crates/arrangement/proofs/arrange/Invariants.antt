use Prim.Native.Nat.{◌+◌}
use Rattle.arrangement.proofs.Emptying.{Emptied}
use Rattle.arrangement.proofs.arrange.Given as goal

abbrev pub invariant-loop-i : goal.invariant-loop-i
invariant-loop-i l = Emptied l.work l.depths l.initial.i l.initial.m l.initial.order l.i l.m l.top l.order

abbrev pub decreases-loop-i : goal.decreases-loop-i
decreases-loop-i l = l.i + l.m
