use native.Mathlib.Omega.{arith}
use Rattle.arrangement.proofs.Emptying.{emptied_constraint, emptied_ends, emptied_individual, emptied_last, emptied_ready, emptied_some, emptied_starts}
use Rattle.arrangement.proofs.arrange.Goals as goal

pub loop-i-init : goal.loop-i-init
loop-i-init c = emptied_starts c.requires

pub last_entry-e-requires : goal.last_entry-e-requires
last_entry-e-requires c = emptied_last c.requires c.loop-i.invariant c.loop-i-test.true

pub overflow_sub-top : goal.overflow_sub-top
overflow_sub-top c = let r = c.loop-i.invariant.room in omega arith

pub bounds-order-top : goal.bounds-order-top
bounds-order-top c = let r = c.loop-i.invariant.room in let w = c.loop-i.invariant.within in omega arith

pub settle-top-requires : goal.settle-top-requires
settle-top-requires c = emptied_ready c.requires c.loop-i.invariant c.loop-i-test.true c.last_entry-e.ensures

pub overflow_sub-i : goal.overflow_sub-i
overflow_sub-i c = let n = c.loop-i-test.true in omega arith

pub loop-i-smaller-then-e-lt-CONSTRAINT_ENTRIES : goal.loop-i-smaller-then-e-lt-CONSTRAINT_ENTRIES
loop-i-smaller-then-e-lt-CONSTRAINT_ENTRIES c = let n = c.loop-i-test.true in omega arith

pub loop-i-preserved-then-e-lt-CONSTRAINT_ENTRIES : goal.loop-i-preserved-then-e-lt-CONSTRAINT_ENTRIES
loop-i-preserved-then-e-lt-CONSTRAINT_ENTRIES c = emptied_individual c.requires c.loop-i.invariant c.loop-i-test.true c.last_entry-e.ensures c.settle-top.ensures c.if-e-lt-CONSTRAINT_ENTRIES.true

pub overflow_sub-m : goal.overflow_sub-m
overflow_sub-m c = let s = emptied_some c.requires c.loop-i.invariant c.loop-i-test.true c.last_entry-e.ensures c.if-e-lt-CONSTRAINT_ENTRIES.false in omega arith

pub loop-i-smaller : goal.loop-i-smaller
loop-i-smaller c = let s = emptied_some c.requires c.loop-i.invariant c.loop-i-test.true c.last_entry-e.ensures c.if-e-lt-CONSTRAINT_ENTRIES.false in omega arith

pub loop-i-preserved : goal.loop-i-preserved
loop-i-preserved c = emptied_constraint c.requires c.loop-i.invariant c.loop-i-test.true c.last_entry-e.ensures c.settle-top.ensures c.if-e-lt-CONSTRAINT_ENTRIES.false

pub shape_of-order : goal.shape_of-order
shape_of-order c = c.loop-i.invariant.same

pub returns : goal.returns
returns c = emptied_ends c.requires c.loop-i.invariant c.loop-i-test.false
