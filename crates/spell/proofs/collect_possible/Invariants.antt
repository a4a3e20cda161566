use Prim.Native.Nat.{ℕ}
use mathlib.Core.List.{List}
use mathlib.Core.Path.{◌≡◌}
use lib.ListN.{length}
use Rattle.frames.specs.Frames.{Only}
use Rattle.layout.specs.Places.{InTables}
use Rattle.meaning.specs.Records.{falling, last_of}
use Rattle.preparation.specs.Prepared.{Accepting}
use Rattle.spell.proofs.Collecting.{Collecting}
use Rattle.spell.proofs.collect_possible.Given as goal

abbrev pub invariant-loop-k : goal.invariant-loop-k
invariant-loop-k l =
    ((v : List ℕ) → Accepting v l.p l.initial.work l.f → Collecting v l.p l.terms l.n l.k) × Only InTables l.initial.work l.work × (length l.terms ≡ length l.initial.terms)

abbrev pub decreases-loop-k : goal.decreases-loop-k
decreases-loop-k l = falling (last_of 6 l.p) l.k
