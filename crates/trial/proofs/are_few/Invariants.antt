-- `are_few`: the product of the numbers so far fits.
use Rattle.trial.proofs.Rounds.{Within}
use Rattle.trial.proofs.are_few.Given as goal

abbrev pub invariant-loop-more : goal.invariant-loop-more
invariant-loop-more l = Within 2 l.all
