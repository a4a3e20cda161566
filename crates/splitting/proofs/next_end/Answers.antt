-- `next_end`: the first key after that of x, where it is before that of hi.
use borrow.Author.Rules.{rules}
use mathlib.Core.Path.{refl}
use native.Mathlib.Omega.{arith}
use Rattle.splitting.proofs.Nearest.{next_beyond, next_found, next_none}
use Rattle.splitting.proofs.next_end.Goals as goal

pub returns-then-ends-at : goal.returns-then-ends-at
returns-then-ends-at c =
    let r = rw c.from.ensures at c.rank-at.ensures in
    record { lower_bound = search rules; next_end = search next_none }

pub returns-then-base-from : goal.returns-then-base-from
returns-then-base-from c =
    let r = rw c.from.ensures at c.rank-at.ensures in
    let b = rw c.from-2.ensures at c.if-base-from.true in
    record { lower_bound = search rules; next_end = search next_beyond }

pub overflow_sub-result : goal.overflow_sub-result
overflow_sub-result c = omega (arith, c.rank-at.ensures.at c.if-ends-at.false)

pub overflow_cast-result : goal.overflow_cast-result
overflow_cast-result c = omega (arith, c.rank-at.ensures.at c.if-ends-at.false)

pub returns : goal.returns
returns c =
    let r = rw c.from.ensures at c.rank-at.ensures in
    let a = r.at c.if-ends-at.false in
    let b = rw c.from-2.ensures at c.if-base-from.false in
    record { lower_bound = (omega (arith, a), omega (arith, a)); next_end = next_found c.args.f.0 _ _ c.requires c.key-base.ensures r refl (omega arith) c.if-ends-at.false b }
