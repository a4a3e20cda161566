use mathlib.Core.Path.{ap}
use native.Mathlib.Omega.{arith}
use lib.ListN.{length}
use Rattle.countermodel.proofs.Pairs.{values_end_lem, values_more, values_start}
use Rattle.countermodel.proofs.Sizes.{values_most}
use Rattle.countermodel.proofs.count_values.Goals as goal

pub loop-m-init : goal.loop-m-init
loop-m-init c =
    let a = c.args in
    (c.next_pair-m.ensures.0, omega (arith, ap length (values_start a.work.now a.n a.x _ c.next_pair-m.ensures.1)))

pub overflow_add-found : goal.overflow_add-found
overflow_add-found c =
    let a = c.args in
    omega (arith, c.loop-m.invariant.1, values_most a.work.now a.n a.x)

pub loop-m-smaller : goal.loop-m-smaller
loop-m-smaller c =
    let a = c.args in
    omega (arith, ap length (values_more a.work.now a.n a.x c.in-Some.k _ c.in-Some.is c.next_pair-m-in-Some.ensures.1))

pub loop-m-preserved : goal.loop-m-preserved
loop-m-preserved c =
    let a = c.args in
    let i = c.loop-m.invariant.1 in
    (c.next_pair-m-in-Some.ensures.0, omega (arith, i, ap length (values_more a.work.now a.n a.x c.in-Some.k _ c.in-Some.is c.next_pair-m-in-Some.ensures.1)))

pub returns : goal.returns
returns c =
    let a = c.args in
    let i = c.loop-m.invariant.1 in
    omega (arith, i, ap length (values_end_lem a.work.now a.n a.x c.in_default.is))
