-- `round_of`: the product of the numbers so far fits.
use Rattle.trial.proofs.Rounds.{Within}
use Rattle.trial.proofs.round_of.Given as goal

abbrev pub invariant-loop-more : goal.invariant-loop-more
invariant-loop-more l = Within 1024 l.round
