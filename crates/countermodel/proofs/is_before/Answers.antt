use Rattle.countermodel.proofs.Before.{before_other, before_same}
use Rattle.countermodel.proofs.is_before.Goals as goal

pub returns-then-f-g : goal.returns-then-f-g
returns-then-f-g c =
    before_same _ _ _ c.feature_of-f.ensures c.feature_of-g.ensures c.if-f-g.true c.piece_hi.ensures c.piece_hi-then-f-g.ensures

pub returns : goal.returns
returns c =
    before_other _ _ _ c.feature_of-f.ensures c.feature_of-g.ensures c.if-f-g.false
