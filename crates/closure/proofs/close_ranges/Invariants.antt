use lib.ListN.{length}
use mathlib.Core.Path.{◌≡◌}
use Rattle.closure.specs.Rows.{widened}
use Rattle.meaning.specs.Records.{falling, last_of}
use Rattle.vocabulary.proofs.Chain.{Folding}
use Rattle.closure.proofs.close_ranges.Given as goal

abbrev pub invariant-loop-k : goal.invariant-loop-k
invariant-loop-k l = (length l.work ≡ length l.initial.work) × Folding l.v widened l.initial.work l.k l.work

abbrev pub decreases-loop-k : goal.decreases-loop-k
decreases-loop-k l = falling (last_of 4 l.v) l.k
