use Prim.Native.Nat.{◌+◌, ◌-◌, ◌≤◌}
use mathlib.Core.Path.{◌≡◌}
use lib.ListN.{length}
use Rattle.extension.specs.Columns.{FilledTo}
use Rattle.extension.proofs.fill_all.Given as goal

abbrev pub invariant-loop-k : goal.invariant-loop-k
invariant-loop-k l = (l.k ≤ l.k-end + 1) × FilledTo l.p l.m l.work l.n (l.k - 1) l.columns × (length l.columns ≡ length l.initial.columns)
