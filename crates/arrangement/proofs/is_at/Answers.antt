use mathlib.Core.Path.{refl}
use Rattle.arrangement.proofs.Ends.{next_past, next_told}
use Rattle.entries.proofs.Runs.{has_item}
use Rattle.arrangement.proofs.is_at.Goals as goal

pub depth_of-requires : goal.depth_of-requires
depth_of-requires c = has_item c.requires.items c.args.at refl

pub returns-then-at-order : goal.returns-then-at-order
returns-then-at-order c = let a = c.args in next_told a.work.now a.depths.now a.order.now a.at a.d c.if-at-order.true refl c.depth_of.ensures

pub returns-else-at-order : goal.returns-else-at-order
returns-else-at-order c = let a = c.args in next_past a.work.now a.depths.now a.order.now a.at a.d c.if-at-order.false
