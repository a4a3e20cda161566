-- `skip`: the dials from d on have been passed.
use Rattle.odometer.proofs.Passing.{Passing}
use Rattle.odometer.proofs.skip.Given as goal

abbrev pub invariant-loop-d : goal.invariant-loop-d
invariant-loop-d l =
    Passing l.ends l.dials l.initial.earlier l.earlier l.initial.work l.work l.n l.reason l.q l.mask l.weight l.d
