use borrow.Author.Tests.{eq-eqb, ne_eqb}
use Rattle.rehearsal.proofs.next_term.Goals as goal

pub returns-then-t-m : goal.returns-then-t-m
returns-then-t-m c = rw (eq-eqb _ _ c.if-t-m.true)

pub returns-else-t-m : goal.returns-else-t-m
returns-else-t-m c = rw (ne_eqb _ _ c.if-t-m.false)
