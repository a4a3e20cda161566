use native.Mathlib.Omega.{arith}
use mathlib.Core.Path.{refl}
use Rattle.writing.proofs.Linking.{beside_above, beside_here, skipping_ends, skipping_more, skipping_starts}
use Rattle.writing.proofs.link_beside.Goals as goal

pub loop-e-init : goal.loop-e-init
loop-e-init c = let a = c.args in skipping_starts a.work.now a.depths.now a.rest.now a.d a.first c.requires.1

pub returns-then-depth-d-2 : goal.returns-then-depth-d-2
returns-then-depth-d-2 c = beside_here c.loop-e.invariant c.loop-e-test.true refl c.depth_of-depth.ensures c.if-depth-d.true c.if-depth-d-2.true

pub returns-else-depth-d-2 : goal.returns-else-depth-d-2
returns-else-depth-d-2 c = beside_above c.loop-e.invariant c.loop-e-test.true refl c.depth_of-depth.ensures c.if-depth-d.true c.if-depth-d-2.false

pub overflow_add-k : goal.overflow_add-k
overflow_add-k c = omega (arith, c.loop-e.invariant.few, c.count_at-k.ensures.few, c.requires.0.few, c.loop-e-test.true)

pub loop-e-preserved : goal.loop-e-preserved
loop-e-preserved c = skipping_more c.loop-e.invariant c.loop-e-test.true refl c.depth_of-depth.ensures c.if-depth-d.false c.count_at-k.ensures

pub returns : goal.returns
returns c = skipping_ends c.loop-e.invariant c.loop-e-test.false
