use Prim.Native.Nat.{◌+◌, ◌-◌, ◌≤◌}
use mathlib.Core.Path.{◌≡◌}
use lib.ListN.{length}
use Rattle.spans.proofs.Cuts.{Cutting}
use Rattle.spans.proofs.cut_all.Given as goal

abbrev pub invariant-loop-k : goal.invariant-loop-k
invariant-loop-k l = (l.k ≤ l.last + 1) × Cutting l.p l.first (l.k - 1) l.cuts l.n × (length l.cuts ≡ length l.initial.cuts)
