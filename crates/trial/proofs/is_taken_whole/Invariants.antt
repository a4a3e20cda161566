-- `is_taken_whole`: at record k the terms from k on are still to be asked.
use Rattle.meaning.specs.Records.{falling, last_of}
use Rattle.trial.proofs.Passing.{WholeSeeking}
use Rattle.trial.proofs.is_taken_whole.Given as goal

abbrev pub invariant-loop-term : goal.invariant-loop-term
invariant-loop-term l = WholeSeeking l.q l.work l.t l.term

abbrev pub decreases-loop-term : goal.decreases-loop-term
decreases-loop-term l = falling (last_of 6 l.q) l.term
