use Prim.Native.Nat.{◌-◌}
use lib.ListN.{length}
use Rattle.arrangement.proofs.Finding.{Finding}
use Rattle.arrangement.proofs.find_place.Given as goal

abbrev pub invariant-loop-end : goal.invariant-loop-end
invariant-loop-end l = Finding l.work l.depths l.order l.a l.b l.d l.at

abbrev pub decreases-loop-end : goal.decreases-loop-end
decreases-loop-end l = length l.order - l.at
