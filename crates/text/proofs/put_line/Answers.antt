use native.Mathlib.Omega.{arith}
use Rattle.text.proofs.Lines.{lined_all, lined_more, lined_starts}
use Rattle.text.proofs.put_line.Goals as goal

pub put_name-next-requires : goal.put_name-next-requires
put_name-next-requires c = omega arith

pub loop-n-init : goal.loop-n-init
loop-n-init c = lined_starts c.args.numbers.now c.put_name-next.ensures

pub put_number-next-requires : goal.put_number-next-requires
put_number-next-requires c = omega (arith, c.loop-n.invariant.ends, c.loop-n.invariant.put.size, c.loop-n-test.true)

pub loop-n-preserved : goal.loop-n-preserved
loop-n-preserved c = lined_more c.loop-n.invariant c.loop-n-test.true c.put_number-next.ensures.put c.put_number-next.ensures.upper_bound

pub put_byte-requires : goal.put_byte-requires
put_byte-requires c = omega (arith, c.loop-n.invariant.ends, c.loop-n.invariant.put.size, c.loop-n.auto.n-index-end)

pub returns : goal.returns
returns c = record { put = lined_all c.loop-n.invariant c.loop-n-test.false c.put_byte.ensures; upper_bound = omega (arith, c.loop-n.invariant.ends, c.loop-n.auto.n-index-end, c.put_byte.ensures.place) }
