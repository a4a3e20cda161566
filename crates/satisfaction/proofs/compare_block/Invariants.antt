use Rattle.meaning.specs.Records.{falling, last_of}
use Rattle.model.proofs.Chain.{Scanning}
use Rattle.satisfaction.proofs.Values.{Comparing}
use Rattle.satisfaction.proofs.compare_block.Given as goal

abbrev pub invariant-loop-f : goal.invariant-loop-f
invariant-loop-f l = Scanning (Comparing l.m l.base l.initial.work l.work) l.m l.f

abbrev pub decreases-loop-f : goal.decreases-loop-f
decreases-loop-f l = falling (last_of 5 l.m) l.f
