use Rattle.writing.proofs.Linking.{Skipping}
use Rattle.writing.proofs.link_beside.Given as goal

abbrev pub invariant-loop-e : goal.invariant-loop-e
invariant-loop-e l = Skipping l.work l.depths l.rest l.d l.first l.e-index l.k
