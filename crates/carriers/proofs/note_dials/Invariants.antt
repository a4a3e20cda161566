-- `note_dials`: whatever is noted, no individual is in a list.
use mathlib.Core.Path.{◌≡◌}
use lib.ListN.{length}
use Rattle.carriers.specs.Carriers.{Unlisted}
use Rattle.carriers.proofs.note_dials.Given as goal

abbrev pub invariant-loop-d : goal.invariant-loop-d
invariant-loop-d l = (length l.carriers ≡ length l.initial.carriers) × Unlisted l.carriers l.t.individuals
