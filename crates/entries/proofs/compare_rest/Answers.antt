use Rattle.std.proofs.lemmas.Slice.{between_to_end}
use lib.ListN.{length}
use native.Mathlib.Omega.{arith}
use Rattle.entries.proofs.Runs.{along_comparable, along_ends, along_inside, along_more, along_starts, along_told}
use Rattle.entries.proofs.compare_rest.Goals as goal

pub loop-i-init : goal.loop-i-init
loop-i-init c = let a = c.args in along_starts a.work.now a.depths.now a.x.now a.y.now c.requires.0 c.requires.1

pub slice_bounds-compare_step-start-in-loop-i : goal.slice_bounds-compare_step-start-in-loop-i
slice_bounds-compare_step-start-in-loop-i c = let a = c.args in let h = along_inside a.work.now a.depths.now c.loop-i.invariant c.loop-i-test.true in omega arith

pub slice_bounds-compare_step-count-in-loop-i : goal.slice_bounds-compare_step-count-in-loop-i
slice_bounds-compare_step-count-in-loop-i c = let a = c.args in let h = along_inside a.work.now a.depths.now c.loop-i.invariant c.loop-i-test.true in omega arith

pub compare_step-step-requires : goal.compare_step-step-requires
compare_step-step-requires c =
    let a = c.args in
    let l = c.loop-i in
    rw (between_to_end a.x.now l.i (length a.x.now) (omega arith), between_to_end a.y.now l.i (length a.y.now) (omega arith)) (along_comparable a.work.now a.depths.now l.invariant c.requires.0.first c.requires.0.second c.loop-i-test.true)

pub returns-then-is_ne : goal.returns-then-is_ne
returns-then-is_ne c =
    let a = c.args in
    let l = c.loop-i in
    let s = rw (between_to_end a.x.now l.i (length a.x.now) (omega arith), between_to_end a.y.now l.i (length a.y.now) (omega arith)) at c.compare_step-step.ensures in
    along_told a.work.now a.depths.now l.invariant s (cc)

pub loop-i-preserved : goal.loop-i-preserved
loop-i-preserved c =
    let a = c.args in
    let l = c.loop-i in
    let s = rw (between_to_end a.x.now l.i (length a.x.now) (omega arith), between_to_end a.y.now l.i (length a.y.now) (omega arith)) at c.compare_step-step.ensures in
    along_more a.work.now a.depths.now l.invariant s (cc)

pub returns : goal.returns
returns c = let a = c.args in along_ends a.work.now a.depths.now c.loop-i.invariant c.loop-i-test.false
