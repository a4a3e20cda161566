-- `search`: the tables stand at combination next, and those before it are known to pass.
use mathlib.Core.Path.{◌≡◌}
use lib.ListN.{length}
use Rattle.trial.proofs.Trying.{Trying, left}
use Rattle.trial.proofs.search.Given as goal

abbrev pub invariant-loop-next : goal.invariant-loop-next
invariant-loop-next l =
    (length l.memory ≡ length l.initial.memory) × (length l.takers ≡ length l.initial.takers) × Trying l.a.q.now l.a.dials.now l.earlier l.carriers l.memory l.takers l.initial.work l.work l.a.t l.next l.last

abbrev pub decreases-loop-next : goal.decreases-loop-next
decreases-loop-next l = left l.next
