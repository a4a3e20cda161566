-- `test_constraints`: no constraint before m lies inside.
use Rattle.subsumption.proofs.Pieces.{Passed}
use Rattle.subsumption.proofs.test_constraints.Given as goal

abbrev pub invariant-loop-m : goal.invariant-loop-m
invariant-loop-m l = Passed l.work l.fn.t l.x l.f.0 l.lo l.hi l.m
