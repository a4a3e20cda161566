use Prim.Native.Nat.{◌+◌, ◌-◌, ◌≤◌}
use mathlib.Core.Path.{◌≡◌}
use lib.ListN.{length}
use Rattle.spans.specs.Cuts.{Rowed}
use Rattle.spans.proofs.mark_spans.Given as goal

abbrev pub invariant-loop-k : goal.invariant-loop-k
invariant-loop-k l = (l.first + 1 ≤ l.k) × (l.k ≤ l.last + 1) × Rowed l.p l.first (l.k - 1) l.cuts l.columns l.n × (length l.columns ≡ length l.initial.columns)
