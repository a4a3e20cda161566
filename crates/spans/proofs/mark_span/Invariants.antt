use Prim.Native.Nat.{◌≤◌}
use Rattle.spans.proofs.Tables.{Spanning}
use Rattle.spans.proofs.mark_span.Given as goal

abbrev pub invariant-loop-r : goal.invariant-loop-r
invariant-loop-r l = (l.r ≤ l.n) × Spanning l.cuts l.n l.low l.high l.k l.initial.columns l.columns l.r
