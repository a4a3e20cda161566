use borrow.Author.Tests.{eq-eqb, le-ltb, lt-ltb, ne_eqb}
use Rattle.records.proofs.is_onward.Goals as goal

pub returns-then-next-eq0 : goal.returns-then-next-eq0
returns-then-next-eq0 c = rw (eq-eqb _ _ c.if-next-eq0.true)

pub returns-then-k-next : goal.returns-then-k-next
returns-then-k-next c = rw (ne_eqb _ _ c.if-next-eq0.false, lt-ltb _ _ c.if-k-next.true)

pub returns-else-k-next : goal.returns-else-k-next
returns-else-k-next c = rw (ne_eqb _ _ c.if-next-eq0.false, le-ltb _ _ c.if-k-next.false)
