use mathlib.Core.Path.{refl}
use Rattle.model.proofs.Chain.{scanning_ends, scanning_falls, scanning_on, scanning_starts, scanning_stated}
use Rattle.satisfaction.proofs.Values.{comparable, comparing_ends, comparing_none, comparing_on, comparing_size}
use Rattle.satisfaction.proofs.Values.{comparing_starts, values_fit}
use Rattle.satisfaction.proofs.compare_block.Goals as goal

pub returns-then-base-end : goal.returns-then-base-end
returns-then-base-end c = search comparing_none

pub clear_rows-requires : goal.clear_rows-requires
clear_rows-requires c = search values_fit

pub loop-f-init : goal.loop-f-init
loop-f-init c = search (scanning_starts, comparing_starts)

pub compare-requires : goal.compare-requires
compare-requires c = (search scanning_stated, search (comparable, scanning_stated))

pub loop-f-smaller : goal.loop-f-smaller
loop-f-smaller c = search scanning_falls

pub loop-f-preserved : goal.loop-f-preserved
loop-f-preserved c =
    let x = c.loop-f.invariant in
    let n = c.loop-f-test.true in
    let s = scanning_stated x n in
    let p = c.requires in
    let y = comparable p.0 c.if-base-end.false c.clear_rows.ensures p.1 s refl x.walk.holds in
    scanning_on x n c.fact_next-f.ensures (λ l t. comparing_on s refl n y l t c.compare.ensures)

pub shape_of-work : goal.shape_of-work
shape_of-work c = search comparing_size

pub returns : goal.returns
returns c = let t = scanning_ends c.loop-f.invariant c.loop-f-test.false in search comparing_ends
