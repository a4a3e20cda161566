-- `count_pieces`: the dials before d are counted.
use mathlib.Core.Path.{◌≡◌}
use lib.ListN.{length}
use Rattle.odometer.proofs.Counts.{Counting}
use Rattle.odometer.proofs.count_pieces.Given as goal

abbrev pub invariant-loop-d : goal.invariant-loop-d
invariant-loop-d l = (length l.counts ≡ length l.initial.counts) × Counting l.ends l.work l.dials l.initial.counts l.counts l.d
