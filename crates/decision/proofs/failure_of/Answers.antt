use Rattle.decision.proofs.Terms.{failed_impossible, failed_tried}
use Rattle.decision.proofs.failure_of.Goals as goal

pub returns-then-t : goal.returns-then-t
returns-then-t c = failed_impossible _ c.if-t.true

pub first_split_failure-requires : goal.first_split_failure-requires
first_split_failure-requires c = c.requires c.if-t.false

pub shape_of-work-then-known : goal.shape_of-work-then-known
shape_of-work-then-known c = c.first_split_failure.ensures.only.size

pub returns-then-known : goal.returns-then-known
returns-then-known c = failed_tried _ c.if-t.false c.first_split_failure.ensures

pub first_failure-requires : goal.first_failure-requires
first_failure-requires c = c.requires c.if-t.false

pub shape_of-work : goal.shape_of-work
shape_of-work c = c.first_failure.ensures.only.size

pub returns : goal.returns
returns c = failed_tried _ c.if-t.false c.first_failure.ensures
