-- `decide`: at record k the terms from k on are still to be tried, by whatever vocabulary, what was prepared is still there, and
-- nothing is written. Some vocabulary is there, so that all is in place.
use Prim.Native.Nat.{ℕ}
use mathlib.Core.List.{List}
use mathlib.Core.Path.{◌≡◌}
use Rattle.decision.proofs.Policies.{Undecided}
use Rattle.decision.specs.Decisions.{Countable}
use Rattle.frames.specs.Frames.{Only}
use Rattle.layout.specs.Places.{InTables}
use Rattle.meaning.specs.Records.{falling, last_of}
use Rattle.policy.proofs.Terms.{Asking}
use Rattle.decision.proofs.decide.Given as goal

abbrev pub invariant-loop-k : goal.invariant-loop-k
invariant-loop-k l =
    ((v : List ℕ) → Countable v l.p l.q l.initial.work l.f l.initial.s l.initial.k → Asking (Undecided v l.p l.q) v l.p l.s l.k) × Only InTables l.initial.work l.work × (l.out ≡ l.initial.out)

abbrev pub decreases-loop-k : goal.decreases-loop-k
decreases-loop-k l = falling (last_of 6 l.p) l.k
