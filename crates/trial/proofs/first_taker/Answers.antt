use borrow.Author.Rules.{rules}
use Rattle.trial.proofs.Passing.{seeking_ends, seeking_falls, seeking_known, seeking_on, seeking_starts, taking_taker}
use Rattle.trial.proofs.first_taker.Goals as goal

pub loop-k-init : goal.loop-k-init
loop-k-init c = (search rules, search seeking_starts)

pub taken_by-one-requires : goal.taken_by-one-requires
taken_by-one-requires c = let g = c.loop-k.invariant.1 in (g.askable, seeking_known g c.loop-k-test.true)

pub returns-then-is_some : goal.returns-then-is_some
returns-then-is_some c = search (rules, taking_taker)

pub loop-k-smaller : goal.loop-k-smaller
loop-k-smaller c = search seeking_falls

pub loop-k-preserved : goal.loop-k-preserved
loop-k-preserved c = (search rules, search seeking_on)

pub returns : goal.returns
returns c = search (rules, seeking_ends)
