-- `first_taker`: at record k the terms from k on are still to be asked.
use mathlib.Core.Path.{◌≡◌}
use lib.ListN.{length}
use Rattle.meaning.specs.Records.{falling, last_of}
use Rattle.trial.proofs.Passing.{Seeking}
use Rattle.trial.proofs.first_taker.Given as goal

abbrev pub invariant-loop-k : goal.invariant-loop-k
invariant-loop-k l = (length l.memory ≡ length l.initial.memory) × Seeking l.a.q.now l.a.dials.now l.a.carriers.now l.a.work.now l.a.t l.memory l.k

abbrev pub decreases-loop-k : goal.decreases-loop-k
decreases-loop-k l = falling (last_of 6 l.a.q.now) l.k
