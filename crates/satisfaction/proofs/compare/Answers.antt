use native.Mathlib.Omega.{arith}
use Rattle.satisfaction.proofs.Rows.{put_size}
use Rattle.satisfaction.proofs.Values.{compare_clash, compare_first, compare_high, compare_low, compare_same}
use Rattle.satisfaction.proofs.compare.Goals as goal

pub returns-then-u-base : goal.returns-then-u-base
returns-then-u-base c = let a = c.args in compare_low a.m.now a.work.now a.f c.in-Some.ensures c.if-u-base.true

pub returns-then-base-u : goal.returns-then-base-u
returns-then-base-u c = let a = c.args in compare_high a.m.now a.work.now a.f c.in-Some.ensures c.if-base-u.true

pub returns-then-first-eq0 : goal.returns-then-first-eq0
returns-then-first-eq0 c =
    let a = c.args in
    compare_first a.m.now a.work.now a.f c.in-Some.ensures c.if-u-base.false c.if-base-u.false c.fact_owner.ensures c.value_place-at.ensures c.if-first-eq0.true

pub shape_of-work : goal.shape_of-work
shape_of-work c = search put_size

pub returns-then-before-fact_other : goal.returns-then-before-fact_other
returns-then-before-fact_other c =
    let a = c.args in
    compare_clash a.m.now a.work.now a.f c.in-Some.ensures c.if-u-base.false c.if-base-u.false c.fact_owner.ensures c.value_place-at.ensures
    c.if-first-eq0.false c.fact_other-before.ensures c.fact_other.ensures c.if-before-fact_other.true c.put.ensures

pub returns-else-before-fact_other : goal.returns-else-before-fact_other
returns-else-before-fact_other c =
    let a = c.args in
    compare_same a.m.now a.work.now a.f c.in-Some.ensures c.if-u-base.false c.if-base-u.false c.fact_owner.ensures c.value_place-at.ensures
    c.if-first-eq0.false c.fact_other-before.ensures c.fact_other.ensures c.if-before-fact_other.false

pub returns-in_default : goal.returns-in_default
returns-in_default c = let a = c.args in compare_low a.m.now a.work.now a.f (rw c.in_default.is at c.series_number.ensures) (omega arith)
