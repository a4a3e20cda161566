use Rattle.closure.proofs.Raising.{Raising}
use Rattle.words.specs.Sets.{word_sum}
use Rattle.closure.proofs.+raise.Given as goal

abbrev pub decreases-raise : goal.decreases-raise
decreases-raise l = word_sum l.heads.now

abbrev pub invariant-loop-k : goal.invariant-loop-k
invariant-loop-k l = Raising l.v l.initial.work l.initial.heads l.initial.k l.work l.heads l.k

abbrev pub decreases-loop-k : goal.decreases-loop-k
decreases-loop-k l = l.k
