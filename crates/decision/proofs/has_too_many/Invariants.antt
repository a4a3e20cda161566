-- `has_too_many`: at record k the terms from k on are still to be counted, by whatever vocabulary, and what was prepared is still
-- there. Some vocabulary is there, so that all is in place.
use Prim.Native.Nat.{ℕ}
use mathlib.Core.List.{List}
use Rattle.decision.proofs.Terms.{Uncounted}
use Rattle.frames.specs.Frames.{Only}
use Rattle.layout.specs.Places.{InTables}
use Rattle.meaning.specs.Records.{falling, last_of}
use Rattle.policy.proofs.Terms.{Asking}
use Rattle.preparation.specs.Prepared.{Accepting}
use Rattle.decision.proofs.has_too_many.Given as goal

abbrev pub invariant-loop-k : goal.invariant-loop-k
invariant-loop-k l =
    ((v : List ℕ) → Accepting v l.p l.initial.work l.f → (s : ℕ) × Asking (Uncounted v l.p l.ends) v l.p s l.k) × Only InTables l.initial.work l.work

abbrev pub decreases-loop-k : goal.decreases-loop-k
decreases-loop-k l = falling (last_of 6 l.p) l.k
