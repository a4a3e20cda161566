use Rattle.extension.specs.Columns.{hands}
use Rattle.meaning.specs.Records.{falling, last_of}
use Rattle.model.proofs.Chain.{Scanning}
use Rattle.spans.proofs.Joining.{Handing}
use Rattle.extension.proofs.mark_edges.Given as goal

abbrev pub invariant-loop-f : goal.invariant-loop-f
invariant-loop-f l = Scanning (Handing (hands l.columns) l.m l.initial.work l.work) l.m l.f

abbrev pub decreases-loop-f : goal.decreases-loop-f
decreases-loop-f l = falling (last_of 5 l.m) l.f
