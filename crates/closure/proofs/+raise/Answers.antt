use native.Mathlib.Omega.{arith}
use Rattle.closure.proofs.Raising.{raising_call, raising_ends, raising_falls, raising_fits, raising_length, raising_less}
use Rattle.closure.proofs.Raising.{raising_on, raising_starts, raising_within}
use Rattle.closure.proofs.+raise.Goals as goal

pub bounds-heads-at : goal.bounds-heads-at
bounds-heads-at t c = omega (arith, c.place-at.ensures, c.requires.class)

pub bounds-heads-at-2 : goal.bounds-heads-at-2
bounds-heads-at-2 t c = omega (arith, c.place-at.ensures, c.requires.class)

pub loop-k-init : goal.loop-k-init
loop-k-init t c = raising_starts _ _ c.args.heads.now _ c.place-at.result c.requires

pub raise-requires : goal.raise-requires
raise-requires t c = let h = c.args.heads.now in
    let i = c.place-at.result in
    let z = c.loop-k-test.true in (
      omega (arith, c.decreases, raising_falls _ _ h _ i c.requires c.loop-k.invariant z),
      raising_call _ _ h _ i c.requires c.loop-k.invariant z c.axiom_right.ensures,
    )

pub lift-requires : goal.lift-requires
lift-requires t c = let h = c.args.heads.now in
    let i = c.place-at.result in
    raising_fits _ _ h _ i c.requires c.loop-k.invariant c.loop-k-test.true c.raise.ensures.raised

pub offset_bounds-next-place : goal.offset_bounds-next-place
offset_bounds-next-place t c = let h = c.args.heads.now in
    let i = c.place-at.result in
    omega (arith, c.place.ensures, raising_within _ _ h _ i c.requires c.loop-k.invariant c.loop-k-test.true)

pub bounds-next-place : goal.bounds-next-place
bounds-next-place t c = let h = c.args.heads.now in
    let i = c.place-at.result in
    omega (arith, c.place.ensures, raising_within _ _ h _ i c.requires c.loop-k.invariant c.loop-k-test.true)

pub loop-k-smaller : goal.loop-k-smaller
loop-k-smaller t c = let h = c.args.heads.now in
    let i = c.place-at.result in
    raising_less _ _ h _ i c.requires c.loop-k.invariant c.loop-k-test.true c.place.ensures

pub loop-k-preserved : goal.loop-k-preserved
loop-k-preserved t c = let h = c.args.heads.now in
    let i = c.place-at.result in
    let e = c.raise.ensures in
    raising_on _ _ h _ i c.requires c.loop-k.invariant c.loop-k-test.true e.raised e.heads_taken c.lift.ensures.work_after c.place.ensures

pub shape_of-work : goal.shape_of-work
shape_of-work t c = raising_length _ _ c.args.heads.now _ c.place-at.result c.requires c.loop-k.invariant

pub returns : goal.returns
returns t c =
    let told = raising_ends _ _ c.args.heads.now _ c.place-at.result c.requires c.loop-k.invariant in
    record { raised = told.0; heads_taken = told.1 }
