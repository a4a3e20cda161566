-- `count_edges`: those found and those left are all.
use Prim.Native.Nat.{◌+◌}
use mathlib.Core.Path.{◌≡◌}
use lib.ListN.{length}
use Rattle.countermodel.proofs.Edges.{edges_left}
use Rattle.countermodel.specs.Facts.{edge_facts}
use Rattle.countermodel.proofs.count_edges.Given as goal

abbrev pub invariant-loop-j : goal.invariant-loop-j
invariant-loop-j l = l.found + length (edges_left l.work l.x l.n l.j) ≡ length (edge_facts l.work l.n l.x)

abbrev pub decreases-loop-j : goal.decreases-loop-j
decreases-loop-j l = length (edges_left l.work l.x l.n l.j)
