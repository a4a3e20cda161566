-- `successors`: a loop over the pending roles, and a call for the roles below each individual, of which less is to be done.
use Prim.Native.Nat.{◌-◌}
use Rattle.normal_form.proofs.Building.{Going}
use Rattle.normal_form.proofs.Growing.{undone}
use Rattle.normal_form.proofs.+successors.Given as goal

abbrev pub decreases-successors : goal.decreases-successors
decreases-successors l = undone l.p.now l.work.now l.j l.stop

abbrev pub invariant-loop-at : goal.invariant-loop-at
invariant-loop-at l = Going l.f l.p l.j l.stop l.parent l.initial.u l.initial.work l.work l.u l.at

abbrev pub decreases-loop-at : goal.decreases-loop-at
decreases-loop-at l = l.stop - l.at
