use native.Mathlib.Omega.{arith}
use Rattle.closure.proofs.Raising.{close_begun, close_ends, close_fits, close_length, close_less, close_on, close_starts}
use Rattle.closure.proofs.close.Goals as goal

pub begin-requires : goal.begin-requires
begin-requires c = omega (arith, c.class_count.ensures, c.requires.1)

-- in each, b is the place after `begin` and s the start
pub raise_all-requires : goal.raise_all-requires
raise_all-requires c =
    (c.requires.0, close_begun _ _ _ c.requires.0 c.requires.1 c.class_count.ensures c.begin.ensures)

-- and a the place after `raise_all`
pub loop-init : goal.loop-init
loop-init c =
    close_starts _ _ _ c.requires.0 c.requires.1 c.class_count.ensures c.begin.ensures c.raise_all.ensures

pub pass-requires : goal.pass-requires
pass-requires c =
    (c.requires.0, close_fits _ _ _ c.requires.0 c.requires.1 c.class_count.ensures c.begin.ensures c.raise_all.ensures c.loop.invariant)

pub loop-smaller : goal.loop-smaller
loop-smaller c =
    let n = c.class_count.ensures in
    let p = c.pass.ensures in
    close_less _ _ _ c.requires.0 c.requires.1 n c.begin.ensures c.raise_all.ensures c.loop.invariant p.work_after p.grown c.loop-test.true
    (λ k. omega (arith, c.type_inv.work k))

pub loop-preserved : goal.loop-preserved
loop-preserved c =
    let n = c.class_count.ensures in
    close_on _ _ _ c.requires.0 c.requires.1 n c.begin.ensures c.raise_all.ensures c.loop.invariant c.pass.ensures.work_after

pub shape_of-work : goal.shape_of-work
shape_of-work c =
    let n = c.class_count.ensures in
    close_length _ _ _ c.requires.0 c.requires.1 n c.begin.ensures c.raise_all.ensures c.loop.invariant c.pass.ensures.work_after

pub returns : goal.returns
returns c =
    let n = c.class_count.ensures in
    let p = c.pass.ensures in
    close_ends _ _ _ c.requires.0 c.requires.1 n c.begin.ensures c.raise_all.ensures c.loop.invariant p.work_after p.grown c.loop-test.false
