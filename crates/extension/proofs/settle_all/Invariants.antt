use Prim.Native.Nat.{◌-◌, ◌≤◌}
use mathlib.Core.Path.{◌≡◌}
use lib.ListN.{length}
use Rattle.extension.specs.Depths.{Settled}
use Rattle.frames.specs.Frames.{Only, Span}
use Rattle.satisfaction.specs.Places.{sets_at, sets_end}
use Rattle.extension.proofs.settle_all.Given as goal

abbrev pub invariant-loop-n : goal.invariant-loop-n
invariant-loop-n l = (l.n ≤ l.top) × Settled l.p l.m l.n l.work × Only (Span sets_at sets_end) l.initial.work l.work × (length l.columns ≡ length l.initial.columns)

abbrev pub decreases-loop-n : goal.decreases-loop-n
decreases-loop-n l = l.top - l.n
