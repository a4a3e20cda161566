use Rattle.writing.proofs.Counting.{deep_classes, deep_own}
use Rattle.writing.proofs.is_deep.Goals as goal

pub returns-then-count-eq0 : goal.returns-then-count-eq0
returns-then-count-eq0 c = deep_own _ _ _ c.classes_at.ensures c.count.ensures c.depth_of-depth.ensures c.if-count-eq0.true

pub returns : goal.returns
returns c = deep_classes _ _ _ c.classes_at.ensures c.count.ensures c.depth_of-depth.ensures c.if-count-eq0.false
