use native.Mathlib.Omega.{arith}
use Rattle.splitting.proofs.Ways.{ways_end, ways_more, ways_past}
use Rattle.splitting.proofs.combinations.Goals as goal

pub returns-then-all-gt-MOST_COMBINATIONS : goal.returns-then-all-gt-MOST_COMBINATIONS
returns-then-all-gt-MOST_COMBINATIONS c =
    let l = c.loop-i in
    let a = c.args in
    λ Q m. ways_past Q a.work.now a.n l.i _ c.loop-i-test.true
    (ways_more Q a.work.now l.i l.all _ (l.invariant.2 Q m) c.feature_of-f.ensures c.lo_of-lo.ensures c.hi_of-hi.ensures
    (c.count-all.ensures.value Q m)) (omega arith)

pub loop-i-preserved : goal.loop-i-preserved
loop-i-preserved c =
    let l = c.loop-i in
    let a = c.args in (
      omega arith,
      omega arith,
      λ Q m. ways_more Q a.work.now l.i l.all _ (l.invariant.2 Q m) c.feature_of-f.ensures c.lo_of-lo.ensures c.hi_of-hi.ensures
          (c.count-all.ensures.value Q m),
    )

pub returns : goal.returns
returns c =
    let l = c.loop-i in
    λ Q m. ways_end Q c.args.work.now _ l.i _ l.invariant.0 c.loop-i-test.false (l.invariant.2 Q m) l.invariant.1
