use lib.ListN.{length}
use Rattle.closure.proofs.Passes.{Held}
use Rattle.closure.proofs.Raising.{slack}
use Rattle.closure.proofs.close.Given as goal

abbrev pub invariant-loop : goal.invariant-loop
invariant-loop l = Held l.v l.initial.work l.work

abbrev pub decreases-loop : goal.decreases-loop
decreases-loop l = slack (length l.initial.work) l.work
