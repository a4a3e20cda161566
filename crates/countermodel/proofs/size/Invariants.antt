-- `size`: the records counted and those of the rows left are all.
use Prim.Native.Nat.{◌+◌, ◌-◌, ◌≤◌}
use mathlib.Core.Path.{◌≡◌}
use lib.ListN.{length}
use Rattle.countermodel.specs.Facts.{facts_from, record_count}
use Rattle.countermodel.proofs.size.Given as goal

abbrev pub invariant-loop-i : goal.invariant-loop-i
invariant-loop-i l = (l.i ≤ l.n) × (l.records + length (facts_from l.work l.t (l.n - l.i) l.i) ≡ record_count l.work l.t)

abbrev pub decreases-loop-i : goal.decreases-loop-i
decreases-loop-i l = l.n - l.i
