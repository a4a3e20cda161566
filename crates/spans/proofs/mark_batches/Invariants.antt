use Prim.Native.Nat.{◌-◌, ◌≤◌}
use mathlib.Core.Path.{◌≡◌}
use lib.ListN.{length}
use Rattle.spans.specs.Values.{ValuesMarked}
use Rattle.spans.proofs.mark_batches.Given as goal

abbrev pub invariant-loop-first : goal.invariant-loop-first
invariant-loop-first l =
    (l.first ≤ l.last) × ValuesMarked l.p l.m 0 l.first l.initial.work l.work × (length l.columns ≡ length l.initial.columns) × (length l.cuts ≡ length l.initial.cuts)

abbrev pub decreases-loop-first : goal.decreases-loop-first
decreases-loop-first l = l.last - l.first
