use Rattle.meaning.specs.Records.{falling, last_of}
use Rattle.satisfaction.proofs.Holding.{Judging}
use Rattle.satisfaction.proofs.hold_records.Given as goal

abbrev pub invariant-loop-k : goal.invariant-loop-k
invariant-loop-k l = Judging l.v l.m l.initial.work l.k l.ranged l.work

abbrev pub decreases-loop-k : goal.decreases-loop-k
decreases-loop-k l = falling (last_of 4 l.v) l.k
