use native.Mathlib.Omega.{arith}
use Rattle.model.proofs.Chain.{scanning_ends, scanning_falls, scanning_on, scanning_starts, scanning_stated}
use Rattle.spans.proofs.Joining.{handing_ends, handing_on, handing_starts}
use Rattle.extension.proofs.mark_edges.Goals as goal

pub loop-f-init : goal.loop-f-init
loop-f-init c = search (scanning_starts, handing_starts)

pub mark_edge-requires : goal.mark_edge-requires
mark_edge-requires c = let s = c.loop-f.invariant.walk.holds.only.size in let l = c.requires.1 in record { stated = scanning_stated c.loop-f.invariant c.loop-f-test.true; readable = c.requires.0; long = omega arith; room = c.requires.2 }

pub loop-f-smaller : goal.loop-f-smaller
loop-f-smaller c = search scanning_falls

pub loop-f-preserved : goal.loop-f-preserved
loop-f-preserved c = scanning_on c.loop-f.invariant c.loop-f-test.true c.fact_next-f.ensures (handing_on c.mark_edge.ensures)

pub shape_of-work : goal.shape_of-work
shape_of-work c = c.loop-f.invariant.walk.holds.only.size

pub returns : goal.returns
returns c = handing_ends (scanning_ends c.loop-f.invariant c.loop-f-test.false)
