use borrow.Author.Rules.{rules}
use Rattle.retest.proofs.Dials.{dial_inside, dials_end, missed_on}
use Rattle.retest.proofs.test_dials.Goals as goal

pub returns-then-one : goal.returns-then-one
returns-then-one c = search (rules, dial_inside)

pub loop-d-preserved : goal.loop-d-preserved
loop-d-preserved c = search (rules, missed_on)

pub returns : goal.returns
returns c = search (rules, dials_end)
