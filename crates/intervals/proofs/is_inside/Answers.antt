use borrow.Author.Tests.{le-leb, lt-leb}
use Rattle.intervals.proofs.is_inside.Goals as goal

pub returns-then-lo-low : goal.returns-then-lo-low
returns-then-lo-low c = rw (le-leb _ _ c.if-lo-low.true)

pub returns-else-lo-low : goal.returns-else-lo-low
returns-else-lo-low c = rw (lt-leb _ _ c.if-lo-low.false)
