use Rattle.satisfaction.proofs.Holding.{judging_askable, judging_ends, judging_fails, judging_on, judging_starts}
use Rattle.satisfaction.proofs.Statements.{obeying_falls}
use Rattle.satisfaction.proofs.hold_records.Goals as goal

pub loop-k-init : goal.loop-k-init
loop-k-init c = search judging_starts

pub is_held-requires : goal.is_held-requires
is_held-requires c = judging_askable c.loop-k.invariant c.loop-k-test.true c.make_ranges-ranged.ensures c.axiom_at.ensures

pub returns-then-not-is_held : goal.returns-then-not-is_held
returns-then-not-is_held c = search judging_fails

pub loop-k-smaller : goal.loop-k-smaller
loop-k-smaller c = search obeying_falls

pub loop-k-preserved : goal.loop-k-preserved
loop-k-preserved c = search judging_on

pub returns : goal.returns
returns c = search judging_ends
