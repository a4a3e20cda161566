use native.Mathlib.Omega.{arith}
use Rattle.splitting.proofs.Most.{room_fits, within_more}
use Rattle.splitting.proofs.may_exceed.Goals as goal

pub loop-constraint-preserved : goal.loop-constraint-preserved
loop-constraint-preserved c =
    let l = c.loop-constraint in
    let e = c.args.ends.now in
    (omega arith, room_fits _ _ c.if-room-all.false, within_more e l._constraint l.all _ (omega arith) l.invariant.2)
