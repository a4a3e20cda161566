use mathlib.Core.Path.{◌∙◌}
use borrow.Author.Rules.{rules}
use Rattle.model.proofs.Chain.{scanning_ends, scanning_falls, scanning_on, scanning_starts, scanning_stated}
use Rattle.satisfaction.proofs.Classes.{classes_fit, entering_ends, entering_on, entering_starts}
use Rattle.satisfaction.proofs.enter_all.Goals as goal

pub clear_rows-requires : goal.clear_rows-requires
clear_rows-requires c = search classes_fit

pub loop-f-init : goal.loop-f-init
loop-f-init c = search (scanning_starts, entering_starts)

pub enter-requires : goal.enter-requires
enter-requires c = (search scanning_stated, search rules, c.loop-f.invariant.walk.holds.long)

pub loop-f-smaller : goal.loop-f-smaller
loop-f-smaller c = search scanning_falls

pub loop-f-preserved : goal.loop-f-preserved
loop-f-preserved c =
    let x = c.loop-f.invariant in
    let n = c.loop-f-test.true in
    scanning_on x n c.fact_next-f.ensures (entering_on c.requires.0 (scanning_stated x n) c.enter.ensures)

pub shape_of-work : goal.shape_of-work
shape_of-work c = c.loop-f.invariant.walk.holds.only.size ∙ c.clear_rows.ensures.only.size

pub returns : goal.returns
returns c = let t = scanning_ends c.loop-f.invariant c.loop-f-test.false in search entering_ends
