use Prim.Native.Nat.{◌-◌}
use lib.ListN.{length}
use Rattle.declarations.proofs.Counting.{Surveying}
use Rattle.declarations.proofs.survey.Given as goal

abbrev pub invariant-loop-found : goal.invariant-loop-found
invariant-loop-found l = Surveying l.text l.start l.at l.c

abbrev pub decreases-loop-found : goal.decreases-loop-found
decreases-loop-found l = length l.text - l.at
