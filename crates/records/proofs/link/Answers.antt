use borrow.Author.Tests.{eq-eqb, ne_eqb}
use Rattle.records.proofs.link.Goals as goal

pub returns-then-k-last : goal.returns-then-k-last
returns-then-k-last c = rw (eq-eqb _ _ c.if-k-last.true)

pub returns-else-k-last : goal.returns-else-k-last
returns-else-k-last c = rw (ne_eqb _ _ c.if-k-last.false)
