use Rattle.arrangement.proofs.Settling.{place_rotatable, settled_dropped, settled_left, settled_moved}
use Rattle.arrangement.proofs.settle.Goals as goal

pub run_end-b-requires : goal.run_end-b-requires
run_end-b-requires c = c.requires

pub find_place-requires : goal.find_place-requires
find_place-requires c = (c.requires, c.run_end-b.ensures)

pub returns-in-Ok : goal.returns-in-Ok
returns-in-Ok c = settled_dropped c.requires c.run_end-b.ensures c.in-Ok.ensures

pub rotate-requires : goal.rotate-requires
rotate-requires c = place_rotatable c.requires c.run_end-b.ensures c.in-Err.ensures

pub returns-then-b-at : goal.returns-then-b-at
returns-then-b-at c = settled_moved c.requires c.run_end-b.ensures c.in-Err.ensures c.rotate.ensures

pub returns-else-b-at : goal.returns-else-b-at
returns-else-b-at c = settled_left c.requires c.run_end-b.ensures c.in-Err.ensures c.if-b-at.false
