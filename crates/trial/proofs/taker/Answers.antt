-- `taker`: the two likely ones first, then all.
use borrow.Author.Rules.{rules}
use Rattle.trial.proofs.Passing.{taking_askable, taking_taker}
use Rattle.trial.proofs.taker.Goals as goal

pub returns-then-is_some : goal.returns-then-is_some
returns-then-is_some c = search (rules, taking_taker)

pub taken_by-other-requires : goal.taken_by-other-requires
taken_by-other-requires c = (taking_askable c.requires.askable c.taken_by-one.ensures, c.requires.known.1)

pub returns-then-is_some-2 : goal.returns-then-is_some-2
returns-then-is_some-2 c = search (rules, taking_taker)

pub first_taker-requires : goal.first_taker-requires
first_taker-requires c = taking_askable c.requires.askable c.taken_by-other.ensures
