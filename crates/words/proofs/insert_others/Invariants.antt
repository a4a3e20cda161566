use Rattle.words.proofs.Others.{Filling}
use Rattle.words.proofs.insert_others.Given as goal

abbrev pub invariant-loop-x : goal.invariant-loop-x
invariant-loop-x l = Filling l.named l.n l.initial.words l.x l.words
