use lib.ListN.{length}
use mathlib.Core.Path.{◌≡◌}
use Rattle.closure.specs.Rows.{Grown, lifted}
use Rattle.meaning.specs.Records.{falling, last_of}
use Rattle.vocabulary.proofs.Chain.{Folding}
use Rattle.closure.proofs.pass.Given as goal

abbrev pub invariant-loop-k : goal.invariant-loop-k
invariant-loop-k l = (length l.work ≡ length l.initial.work) × Folding l.v lifted l.initial.work l.k l.work × Grown l.grown l.initial.work l.work

abbrev pub decreases-loop-k : goal.decreases-loop-k
decreases-loop-k l = falling (last_of 4 l.v) l.k
