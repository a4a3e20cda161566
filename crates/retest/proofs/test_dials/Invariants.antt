-- `test_dials`: the dials before d that may pass are in the mask, and their pieces do not lie inside.
use Rattle.retest.proofs.Dials.{Missed}
use Rattle.retest.proofs.test_dials.Given as goal

abbrev pub invariant-loop-d : goal.invariant-loop-d
invariant-loop-d l = Missed l.a.dials.now l.a.work.now l.x l.f.0 l.lo l.hi l.all l.d
