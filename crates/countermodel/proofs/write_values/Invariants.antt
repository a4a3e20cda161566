-- `write_values`: at constraint m its fact and those of the pairs above it are left.
use Prim.Native.Nat.{◌<◌}
use Rattle.std.specs.Option.{IfSome}
use lib.ListN.{length}
use Rattle.countermodel.specs.Written.{facts}
use Rattle.records.proofs.Writing.{Left}
use Rattle.countermodel.specs.Facts.{value_facts, values_from}
use Rattle.countermodel.proofs.write_values.Given as goal

abbrev pub invariant-loop-m : goal.invariant-loop-m
invariant-loop-m l = IfSome l.m (λ k. k < l.n) × Left facts l.last l.k (value_facts l.work l.n l.x) l.initial.out l.at (values_from l.work l.n l.x l.m) l.out

abbrev pub decreases-loop-m : goal.decreases-loop-m
decreases-loop-m l = length (values_from l.work l.n l.x l.m)
