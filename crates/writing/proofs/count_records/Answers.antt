use native.Mathlib.Omega.{arith}
use mathlib.Core.Path.{refl}
use Rattle.writing.proofs.Counting.{counting_ends, counting_more, counting_starts}
use Rattle.writing.proofs.count_records.Goals as goal

pub loop-e-init : goal.loop-e-init
loop-e-init c = counting_starts _ _

pub overflow_add-n : goal.overflow_add-n
overflow_add-n c = omega (arith, c.loop-e.invariant.few, c.count_at-n.ensures.few, c.requires.few, c.loop-e-test.true)

pub loop-e-preserved : goal.loop-e-preserved
loop-e-preserved c = counting_more c.loop-e.invariant c.loop-e-test.true refl c.count_at-n.ensures

pub returns : goal.returns
returns c = counting_ends c.loop-e.invariant c.loop-e-test.false
