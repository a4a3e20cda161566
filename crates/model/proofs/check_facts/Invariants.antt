use Rattle.meaning.specs.Records.{falling, last_of}
use Rattle.model.proofs.Laws.{ReadingFacts}
use Rattle.model.proofs.check_facts.Given as goal

abbrev pub invariant-loop-k : goal.invariant-loop-k
invariant-loop-k l = ReadingFacts l.v l.m l.k

abbrev pub decreases-loop-k : goal.decreases-loop-k
decreases-loop-k l = falling (last_of 5 l.m) l.k
