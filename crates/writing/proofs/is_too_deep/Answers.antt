use mathlib.Core.Path.{refl}
use Rattle.writing.proofs.Counting.{passing_ends, passing_found, passing_more, passing_starts}
use Rattle.writing.proofs.is_too_deep.Goals as goal

pub loop-e-init : goal.loop-e-init
loop-e-init c = let a = c.args in passing_starts a.work.now a.depths.now a.order.now

pub returns-then-is_deep : goal.returns-then-is_deep
returns-then-is_deep c =
    let a = c.args in
    passing_found a.work.now a.depths.now a.order.now c.loop-e.invariant c.loop-e-test.true refl c.is_deep.ensures c.if-is_deep.true

pub loop-e-preserved : goal.loop-e-preserved
loop-e-preserved c =
    let a = c.args in
    passing_more a.work.now a.depths.now a.order.now c.loop-e.invariant c.loop-e-test.true refl c.is_deep.ensures c.if-is_deep.false

pub returns : goal.returns
returns c = let a = c.args in passing_ends a.work.now a.depths.now a.order.now c.loop-e.invariant c.loop-e-test.false
