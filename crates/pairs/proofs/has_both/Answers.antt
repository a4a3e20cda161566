use Rattle.pairs.proofs.Pairs.{has_both_lem, has_none}
use Rattle.pairs.proofs.has_both.Goals as goal

pub returns-then-has : goal.returns-then-has
returns-then-has c =
    let a = c.args in
    has_both_lem a.work.now a.s.words a.i c.pair_at-at.ensures c.has.ensures c.if-has.true c.has-then-has.ensures

pub returns-else-has : goal.returns-else-has
returns-else-has c =
    let a = c.args in
    has_none a.work.now a.s.words a.i c.pair_at-at.ensures c.has.ensures c.if-has.false
