use Rattle.arrangement.proofs.Ends.{Ending}
use Rattle.arrangement.proofs.run_end.Given as goal

abbrev pub invariant-loop-at : goal.invariant-loop-at
invariant-loop-at l = Ending l.work l.depths l.order l.i l.d l.at
