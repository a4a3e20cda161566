use borrow.Author.Rules.{rules}
use Rattle.retest.proofs.Spans.{spans_behind, spans_end, spans_fails, spans_found, spans_rests}
use Rattle.retest.proofs.span_state.Goals as goal
use Rattle.retest.proofs.span_state.Goals.{in-Fails, in-Rests}

pub returns-then-holder_of-x : goal.returns-then-holder_of-x
returns-then-holder_of-x c = search (rules, spans_behind)

pub returns-in-Passes : goal.returns-in-Passes
returns-in-Passes c = search (rules, spans_found)

pub loop-m-preserved : goal.loop-m-preserved
loop-m-preserved c = elim c.match-constraint_state.branch [ in-Fails w ↦ search (rules, spans_fails) | in-Rests w ↦ search (rules, spans_rests) ]

pub returns : goal.returns
returns c = search (rules, spans_end)
