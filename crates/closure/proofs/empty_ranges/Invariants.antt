use Prim.Native.Nat.{◌+◌, ◌-◌, ◌≤◌}
use lib.ListN.{length}
use mathlib.Core.Path.{◌≡◌}
use Rattle.closure.specs.Rows.{emptied}
use Rattle.closure.proofs.empty_ranges.Given as goal

abbrev pub invariant-loop-r : goal.invariant-loop-r
invariant-loop-r l = (l.r ≤ l.n + 1) × (length l.work ≡ length l.initial.work) × (l.work ≡ emptied (l.r - 1) l.initial.work)
