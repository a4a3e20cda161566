use native.Mathlib.Omega.{arith}
use Rattle.extension.proofs.Rounds.{settled_none, settled_on}
use Rattle.frames.proofs.Frames.{only_none, only_span}
use Rattle.extension.proofs.settle.Goals as goal

pub fill_all-requires : goal.fill_all-requires
fill_all-requires c = (c.requires.0, c.requires.1.interpreted, c.requires.2)

pub mark_edges-requires : goal.mark_edges-requires
mark_edges-requires c = (c.requires.1.interpreted.readable, c.requires.1.interpreted.long, c.fill_all.ensures.room)

pub shape_of-work-then-is_any_due : goal.shape_of-work-then-is_any_due
shape_of-work-then-is_any_due c = c.mark_edges.ensures.only.size

pub returns-then-is_any_due : goal.returns-then-is_any_due
returns-then-is_any_due c = record { settled = settled_on c.requires.0 c.requires.1 c.fill_all.ensures c.mark_edges.ensures; only = only_span c.mark_edges.ensures.only (omega arith) (omega arith) }

pub returns-else-is_any_due : goal.returns-else-is_any_due
returns-else-is_any_due c = record { settled = settled_none c.requires.1 (c.is_any_due.ensures c.if-is_any_due.false); only = only_none }
