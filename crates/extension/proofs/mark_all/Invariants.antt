use Prim.Native.Nat.{◌+◌, ◌-◌, ◌≤◌}
use Rattle.extension.specs.Sets.{MarkedTo}
use Rattle.frames.specs.Frames.{Only, Span}
use Rattle.satisfaction.specs.Places.{heights_at, sets_at}
use Rattle.extension.proofs.mark_all.Given as goal

abbrev pub invariant-loop-k : goal.invariant-loop-k
invariant-loop-k l = (l.k ≤ l.last + 1) × MarkedTo l.p l.m (l.k - 1) l.work × Only (Span sets_at heights_at) l.initial.work l.work
