use native.Mathlib.Omega.{arith}
use Rattle.splitting.proofs.Starting.{started_more}
use Rattle.splitting.proofs.start.Goals as goal

pub loop-i-preserved : goal.loop-i-preserved
loop-i-preserved c =
    (omega arith, started_more c.requires c.loop-i-test.true c.loop-i.invariant.1 c.lo_of-lo.ensures c.put_piece.ensures)
