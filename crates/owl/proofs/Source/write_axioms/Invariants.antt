use Prim.Native.Nat.{◌-◌}
use lib.ListN.{length}
use Rattle.owl.proofs.Passes.{Writing}
use Rattle.owl.proofs.Source.write_axioms.Given as goal

abbrev pub invariant-loop-item : goal.invariant-loop-item
invariant-loop-item l = Writing l.self.text.now l.last l.initial.out l.out l.at l.k

abbrev pub decreases-loop-item : goal.decreases-loop-item
decreases-loop-item l = length l.self.text.now - l.at
