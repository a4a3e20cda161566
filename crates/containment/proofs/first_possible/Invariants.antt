-- `first_possible`: at record k the terms from k on are still to be asked, by whatever vocabulary, and what was prepared is still
-- there. Some vocabulary is there, so that all is in place.
-- what the rest tells is what all tell
use Prim.Native.Nat.{ℕ}
use mathlib.Core.List.{List}
use mathlib.Core.Path.{◌≡◌}
use Rattle.frames.specs.Frames.{Only}
use Rattle.layout.specs.Places.{InTables}
use Rattle.meaning.specs.Operations.{possible_from}
use Rattle.meaning.specs.Policy.{Policy, policy_of}
use Rattle.meaning.specs.Records.{falling, last_of}
use Rattle.meaning.specs.Vocabulary.{vocabulary_of}
use Rattle.policy.proofs.Terms.{Asking}
use Rattle.preparation.specs.Prepared.{Accepting}
use Rattle.containment.proofs.first_possible.Given as goal

abbrev pub Rest : List ℕ → List ℕ → ℕ → Policy → Type 0
Rest v p s l = possible_from (vocabulary_of v) s l ≡ possible_from (vocabulary_of v) 1 (policy_of p)

abbrev pub invariant-loop-k : goal.invariant-loop-k
invariant-loop-k l = ((v : List ℕ) → Accepting v l.p l.initial.work l.f → Asking (Rest v l.p) v l.p l.s l.k) × Only InTables l.initial.work l.work

abbrev pub decreases-loop-k : goal.decreases-loop-k
decreases-loop-k l = falling (last_of 6 l.p) l.k
