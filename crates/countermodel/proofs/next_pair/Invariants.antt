-- `next_pair`: after i constraints the best of them is known.
use Rattle.countermodel.proofs.Pairs.{Best}
use Rattle.countermodel.proofs.next_pair.Given as goal

abbrev pub invariant-loop-i : goal.invariant-loop-i
invariant-loop-i l = Best l.work l.n l.x l.m l.i l.best
