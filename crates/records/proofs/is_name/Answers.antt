use borrow.Author.Tests.{le-leb, lt-leb}
use Rattle.records.proofs.is_name.Goals as goal

pub returns-then-x-ge1 : goal.returns-then-x-ge1
returns-then-x-ge1 c = rw (le-leb _ _ c.if-x-ge1.true)

pub returns-else-x-ge1 : goal.returns-else-x-ge1
returns-else-x-ge1 c = rw (lt-leb _ _ c.if-x-ge1.false)
