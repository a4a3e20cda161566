-- `write_edges`: at row j its edge and those of the rows after it are left.
use lib.ListN.{length}
use Rattle.countermodel.proofs.Edges.{edges_left}
use Rattle.countermodel.specs.Written.{facts}
use Rattle.records.proofs.Writing.{Left}
use Rattle.countermodel.specs.Facts.{edge_facts}
use Rattle.countermodel.proofs.write_edges.Given as goal

abbrev pub invariant-loop-j : goal.invariant-loop-j
invariant-loop-j l = Left facts l.last l.k (edge_facts l.work l.n l.x) l.initial.out l.at (edges_left l.work l.x l.n l.j) l.out

abbrev pub decreases-loop-j : goal.decreases-loop-j
decreases-loop-j l = length (edges_left l.work l.x l.n l.j)
