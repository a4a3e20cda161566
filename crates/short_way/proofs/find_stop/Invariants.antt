-- `find_stop`: at record k the terms before it pass whole, by whatever vocabulary, and what was prepared is still there. Some vocabulary
-- is there, so that all is in place.
use Prim.Native.Nat.{ℕ}
use mathlib.Core.List.{List}
use Rattle.frames.specs.Frames.{Only}
use Rattle.layout.specs.Places.{InTables}
use Rattle.meaning.specs.Records.{falling, last_of}
use Rattle.policy.proofs.Terms.{Asking}
use Rattle.short_way.specs.Stops.{Behind, PreparedPair}
use Rattle.short_way.proofs.find_stop.Given as goal

abbrev pub invariant-loop-k : goal.invariant-loop-k
invariant-loop-k l = ((v : List ℕ) → PreparedPair v l.p l.q l.initial.work l.f → Asking (Behind v l.p l.q) v l.p l.s l.k) × Only InTables l.initial.work l.work

abbrev pub decreases-loop-k : goal.decreases-loop-k
decreases-loop-k l = falling (last_of 6 l.p) l.k
