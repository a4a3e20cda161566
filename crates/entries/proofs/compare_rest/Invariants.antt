use Rattle.entries.proofs.Runs.{Along}
use Rattle.entries.proofs.compare_rest.Given as goal

abbrev pub invariant-loop-i : goal.invariant-loop-i
invariant-loop-i l = Along l.work l.depths l.x l.y l.i
