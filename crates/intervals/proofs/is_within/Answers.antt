use borrow.Author.Tests.{le-leb, lt-leb}
use Rattle.intervals.proofs.is_within.Goals as goal

pub returns-then-lo-v : goal.returns-then-lo-v
returns-then-lo-v c = rw (le-leb _ _ c.if-lo-v.true)

pub returns-else-lo-v : goal.returns-else-lo-v
returns-else-lo-v c = rw (lt-leb _ _ c.if-lo-v.false)
