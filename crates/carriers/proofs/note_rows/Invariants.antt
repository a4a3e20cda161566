-- `note_rows`: the rows from j on are in their lists.
use mathlib.Core.Path.{◌≡◌}
use lib.ListN.{length}
use Rattle.carriers.proofs.Linking.{Linking}
use Rattle.carriers.proofs.note_rows.Given as goal

abbrev pub invariant-loop-j : goal.invariant-loop-j
invariant-loop-j l = (length l.carriers ≡ length l.initial.carriers) × Linking l.carriers l.work l.fn.t.individuals l.j
