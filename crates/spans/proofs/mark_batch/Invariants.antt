use Rattle.meaning.specs.Records.{falling, last_of}
use Rattle.model.proofs.Chain.{Scanning}
use Rattle.spans.proofs.Joining.{Handing}
use Rattle.spans.specs.Cuts.{spans_among}
use Rattle.spans.specs.Values.{shows}
use Rattle.spans.proofs.mark_batch.Given as goal

abbrev pub invariant-loop-f : goal.invariant-loop-f
invariant-loop-f l = Scanning (Handing (shows (spans_among l.p l.first l.last)) l.m l.initial.work l.work) l.m l.f

abbrev pub decreases-loop-f : goal.decreases-loop-f
decreases-loop-f l = falling (last_of 5 l.m) l.f
