-- `count_values`: those found and those left are all.
use Prim.Native.Nat.{◌+◌, ◌<◌}
use mathlib.Core.Path.{◌≡◌}
use lib.ListN.{length}
use Rattle.std.specs.Option.{IfSome}
use Rattle.countermodel.specs.Facts.{value_facts, values_from}
use Rattle.countermodel.proofs.count_values.Given as goal

abbrev pub invariant-loop-m : goal.invariant-loop-m
invariant-loop-m l = IfSome l.m (λ k. k < l.n) × (l.found + length (values_from l.work l.n l.x l.m) ≡ length (value_facts l.work l.n l.x))

abbrev pub decreases-loop-m : goal.decreases-loop-m
decreases-loop-m l = length (values_from l.work l.n l.x l.m)
