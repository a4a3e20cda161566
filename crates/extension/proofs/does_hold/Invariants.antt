use Rattle.extension.proofs.Passing.{Passing}
use Rattle.meaning.specs.Records.{falling, last_of}
use Rattle.extension.proofs.does_hold.Given as goal

abbrev pub invariant-loop-j : goal.invariant-loop-j
invariant-loop-j l = Passing l.p l.work l.i l.k l.j

abbrev pub decreases-loop-j : goal.decreases-loop-j
decreases-loop-j l = falling (last_of 6 l.p) l.j
