-- `gather`: a loop over the pending roles.
use Prim.Native.Nat.{◌-◌}
use Rattle.normal_form.proofs.Joining.{Going}
use Rattle.normal_form.proofs.gather.Given as goal

abbrev pub invariant-loop-at : goal.invariant-loop-at
invariant-loop-at l = Going l.f l.p l.r.0 l.j l.stop l.x l.first l.initial.work l.initial.h l.work l.h l.at

abbrev pub decreases-loop-at : goal.decreases-loop-at
decreases-loop-at l = l.stop - l.at
