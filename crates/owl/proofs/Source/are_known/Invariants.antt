use Prim.Native.Nat.{◌-◌}
use lib.ListN.{length}
use Rattle.owl.proofs.Passes.{Knowing}
use Rattle.owl.proofs.Source.are_known.Given as goal

abbrev pub invariant-loop-item : goal.invariant-loop-item
invariant-loop-item l = Knowing l.self.text.now l.at l.initial.roles l.roles l.initial.features l.features

abbrev pub decreases-loop-item : goal.decreases-loop-item
decreases-loop-item l = length l.self.text.now - l.at
