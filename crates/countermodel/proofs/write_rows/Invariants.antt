-- `write_rows`: at row i the facts of the rows from i on are left.
use Prim.Native.Nat.{◌-◌, ◌≤◌}
use Rattle.countermodel.specs.Written.{facts}
use Rattle.records.proofs.Writing.{Left}
use Rattle.countermodel.specs.Facts.{facts_from, table_facts}
use Rattle.countermodel.proofs.write_rows.Given as goal

abbrev pub invariant-loop-i : goal.invariant-loop-i
invariant-loop-i l = (l.i ≤ l.n) × Left facts l.last 1 (table_facts l.work l.t) l.initial.out l.k (facts_from l.work l.t (l.n - l.i) l.i) l.out

abbrev pub decreases-loop-i : goal.decreases-loop-i
decreases-loop-i l = l.n - l.i
