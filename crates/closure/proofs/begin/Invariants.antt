use Prim.Native.Nat.{◌+◌, ◌-◌, ◌≤◌}
use lib.ListN.{length}
use mathlib.Core.Path.{◌≡◌}
use Rattle.closure.specs.Rows.{begun}
use Rattle.closure.proofs.begin.Given as goal

abbrev pub invariant-loop-c : goal.invariant-loop-c
invariant-loop-c l = (l.c ≤ l.n + 1) × (length l.work ≡ length l.initial.work) × (l.work ≡ begun (l.c - 1) l.initial.work)
