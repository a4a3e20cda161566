use borrow.Author.Tests.{eq-eqb, le-leb, lt-leb, ne_eqb}
use Rattle.records.proofs.is_sized.Goals as goal

pub returns-then-width-n : goal.returns-then-width-n
returns-then-width-n c = rw (eq-eqb _ _ c.if-n-width-eq0.true, le-leb _ _ c.if-width-n.true)

pub returns-else-width-n : goal.returns-else-width-n
returns-else-width-n c = rw (eq-eqb _ _ c.if-n-width-eq0.true, lt-leb _ _ c.if-width-n.false)

pub returns-else-n-width-eq0 : goal.returns-else-n-width-eq0
returns-else-n-width-eq0 c = rw (ne_eqb _ _ c.if-n-width-eq0.false)
