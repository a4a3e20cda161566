use borrow.Author.Rules.{rules}
use mathlib.Core.Path.{refl}
use Rattle.trial.proofs.Passing.{whole_ends, whole_falls, whole_first, whole_found, whole_on, whole_starts, whole_testable}
use Rattle.trial.proofs.is_taken_whole.Goals as goal

pub loop-term-init : goal.loop-term-init
loop-term-init c = search whole_starts

pub test-requires : goal.test-requires
test-requires c = search (rules, whole_testable, whole_first)

pub returns-then-test : goal.returns-then-test
returns-then-test c = whole_found c.loop-term.invariant c.loop-term-test.true c.child_of.ensures c.test.ensures refl c.if-test.true

pub loop-term-smaller : goal.loop-term-smaller
loop-term-smaller c = search whole_falls

pub loop-term-preserved : goal.loop-term-preserved
loop-term-preserved c = search whole_on

pub returns : goal.returns
returns c = whole_ends c.loop-term.invariant refl c.loop-term-test.false
