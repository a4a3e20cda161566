use Prim.Native.Nat.{suc, ◌-◌}
use mathlib.Core.Path.{◌≡◌}
use native.Mathlib.Omega.{arith}
use Rattle.odometer.proofs.Passing.{passing_ends, passing_split, passing_starts, small, weight_some}
use Rattle.odometer.proofs.Skipping.{passing_done, passing_on, weight_fits}
use Rattle.odometer.proofs.skip.Goals as goal

pub loop-d-init : goal.loop-d-init
loop-d-init c = passing_starts c.requires

-- in each from here, l is the loop, s the start
pub turn-requires : goal.turn-requires
turn-requires c =
    let z : c.loop-d.d ≡ suc (c.loop-d.d - 1) = omega (arith, c.loop-d-test.true) in
    (passing_split c.requires c.loop-d.invariant, rw c.place.ensures (small c.requires c.loop-d.invariant z))

pub onward-requires : goal.onward-requires
onward-requires c =
    let z : c.loop-d.d ≡ suc (c.loop-d.d - 1) = omega (arith, c.loop-d-test.true) in
    let w = weight_some c.requires c.loop-d.invariant z in
    (c.requires.number.0, c.requires.number.1, w.0, w.1)

pub returns-then-turn : goal.returns-then-turn
returns-then-turn c =
    let z : c.loop-d.d ≡ suc (c.loop-d.d - 1) = omega (arith, c.loop-d-test.true) in
    passing_done c.requires c.loop-d.invariant z c.has_dial-relied.ensures c.joined-mask.ensures (rw c.place.ensures at c.turn.ensures) c.if-turn.true c.onward.ensures

pub overflow_mul-weight : goal.overflow_mul-weight
overflow_mul-weight c =
    let z : c.loop-d.d ≡ suc (c.loop-d.d - 1) = omega (arith, c.loop-d-test.true) in
    let w = weight_fits c.requires c.loop-d.invariant z c.has_dial-relied.ensures c.joined-mask.ensures (rw c.place.ensures at c.turn.ensures) c.if-turn.false in
    omega arith

pub loop-d-smaller : goal.loop-d-smaller
loop-d-smaller c = omega arith

pub loop-d-preserved : goal.loop-d-preserved
loop-d-preserved c =
    let z : c.loop-d.d ≡ suc (c.loop-d.d - 1) = omega (arith, c.loop-d-test.true) in
    passing_on c.requires c.loop-d.invariant z c.has_dial-relied.ensures c.joined-mask.ensures (rw c.place.ensures at c.turn.ensures) c.if-turn.false

pub returns : goal.returns
returns c = search passing_ends
