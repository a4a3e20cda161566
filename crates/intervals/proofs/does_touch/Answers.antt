use borrow.Author.Tests.{le-leb, lt-leb}
use Rattle.intervals.proofs.does_touch.Goals as goal

pub returns-then-first-hi : goal.returns-then-first-hi
returns-then-first-hi c = rw (le-leb _ _ c.if-first-hi.true)

pub returns-else-first-hi : goal.returns-else-first-hi
returns-else-first-hi c = rw (lt-leb _ _ c.if-first-hi.false)
