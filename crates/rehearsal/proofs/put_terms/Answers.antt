use native.Mathlib.Omega.{arith}
use Rattle.rehearsal.proofs.Terms.{terms_more, terms_put, terms_room, terms_start}
use Rattle.rehearsal.proofs.put_terms.Goals as goal

pub loop-t-init : goal.loop-t-init
loop-t-init c = terms_start _ _ _ _

pub put_term-cursor-requires : goal.put_term-cursor-requires
put_term-cursor-requires c = (c.requires.classes, terms_room c.loop-t.invariant c.requires c.loop-t-test.true, omega arith)

pub loop-t-preserved : goal.loop-t-preserved
loop-t-preserved c = terms_more c.loop-t.invariant c.loop-t-test.true c.next_term.ensures c.put_term-cursor.ensures

pub returns : goal.returns
returns c = terms_put c.loop-t.invariant c.loop-t-test.false
