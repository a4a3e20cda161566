use native.Mathlib.Omega.{arith}
use Rattle.layout.specs.Tables.{interval_of}
use Rattle.splitting.proofs.Pieces.{walk_ends, walk_on, walk_starts}
use Rattle.splitting.proofs.count.Goals as goal

pub loop-x-init : goal.loop-x-init
loop-x-init c = (c.requires, omega arith, omega arith, λ Q n. walk_starts Q (interval_of _ _ _) c.requires)

pub loop-x-smaller : goal.loop-x-smaller
loop-x-smaller c = omega (arith, c.next_upper-x.ensures.lower_bound)

pub loop-x-preserved : goal.loop-x-preserved
loop-x-preserved c =
    let b = c.next_upper-x.ensures in
    let l = c.loop-x in (
      b.lower_bound.1,
      omega arith,
      omega (arith, b.lower_bound),
      λ Q n. walk_on Q (interval_of _ _ _) c.requires l.c l.x _ (l.invariant.3 Q n) c.loop-x-test.true (b.next_upper Q n),
    )

pub returns : goal.returns
returns c =
    let l = c.loop-x in
    let a = c.requires in
    record { lower_bound = (omega arith, omega arith); value = λ Q n. walk_ends Q (interval_of _ _ _) a l.c l.x (l.invariant.3 Q n) c.loop-x-test.false }
