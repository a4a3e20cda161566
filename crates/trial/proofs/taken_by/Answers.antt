-- `taken_by`.
use mathlib.Core.Path.{refl}
use Rattle.trial.proofs.Passing.{first_individual, none_taken, term_refuses, term_takes, term_testable}
use Rattle.trial.proofs.taken_by.Goals as goal

pub returns-in_err-term : goal.returns-in_err-term
returns-in_err-term c = rw (c.in_err-term.was, c.from_residual.ensures) (none_taken c.requires.0)

pub test-one-requires : goal.test-one-requires
test-one-requires c = (term_testable c.requires.0 _ c.child_of.ensures (rw c.in_ok-term.was at c.requires.1), first_individual c.requires.0)

pub returns-then-one : goal.returns-then-one
returns-then-one c = rw c.in_ok-term.was (term_takes c.requires.0 _ c.child_of.ensures c.test-one.ensures (rw c.in_ok-term.was at c.requires.1) refl refl c.if-one.true)

pub returns-else-one : goal.returns-else-one
returns-else-one c = rw c.in_ok-term.was (term_refuses c.requires.0 _ c.child_of.ensures c.test-one.ensures c.if-one.false)
