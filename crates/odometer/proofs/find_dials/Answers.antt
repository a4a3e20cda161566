use native.Mathlib.Omega.{arith}
use Rattle.odometer.proofs.Finding.{finding_ends, finding_more, finding_other, finding_room, finding_starts}
use Rattle.odometer.proofs.find_dials.Goals as goal

pub loop-m-init : goal.loop-m-init
loop-m-init c = (omega arith, finding_starts _ _)

pub loop-m-smaller-then-hi_of-lo_of : goal.loop-m-smaller-then-hi_of-lo_of
loop-m-smaller-then-hi_of-lo_of c = omega arith

pub loop-m-preserved-then-hi_of-lo_of : goal.loop-m-preserved-then-hi_of-lo_of
loop-m-preserved-then-hi_of-lo_of c =
    (omega arith, finding_other c.requires.0 c.requires.1 c.loop-m.invariant.1 c.loop-m-test.true c.lo_of.ensures c.hi_of.ensures c.if-hi_of-lo_of.true)

pub overflow_cast-dials : goal.overflow_cast-dials
overflow_cast-dials c = omega (arith, c.requires.0.splittable.few)

pub offset_bounds-dials-found : goal.offset_bounds-dials-found
offset_bounds-dials-found c =
    let r = finding_room c.requires.0 c.requires.1 c.loop-m.invariant.1 c.loop-m-test.true c.lo_of.ensures c.hi_of.ensures c.if-hi_of-lo_of.false in
    omega arith

pub bounds-dials-found : goal.bounds-dials-found
bounds-dials-found c =
    let r = finding_room c.requires.0 c.requires.1 c.loop-m.invariant.1 c.loop-m-test.true c.lo_of.ensures c.hi_of.ensures c.if-hi_of-lo_of.false in
    omega (arith, c.loop-m.invariant.1.size)

pub overflow_add-found : goal.overflow_add-found
overflow_add-found c =
    let r = finding_room c.requires.0 c.requires.1 c.loop-m.invariant.1 c.loop-m-test.true c.lo_of.ensures c.hi_of.ensures c.if-hi_of-lo_of.false in
    omega arith

pub loop-m-smaller : goal.loop-m-smaller
loop-m-smaller c = omega arith

pub loop-m-preserved : goal.loop-m-preserved
loop-m-preserved c =
    (omega arith, finding_more c.requires.0 c.requires.1 c.loop-m.invariant.1 c.loop-m-test.true c.lo_of.ensures c.hi_of.ensures c.if-hi_of-lo_of.false)

pub returns : goal.returns
returns c = finding_ends c.requires.0 c.requires.1 c.loop-m.invariant.1 (omega arith)
