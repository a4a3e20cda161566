use mathlib.Core.Path.{◌∙◌}
use Rattle.model.proofs.Chain.{scanning_ends, scanning_falls, scanning_on, scanning_starts, scanning_stated}
use Rattle.satisfaction.proofs.Ranges.{ranges_there, ranging_ends, ranging_interpreted, ranging_on}
use Rattle.satisfaction.proofs.Ranges.{ranging_starts}
use Rattle.satisfaction.proofs.make_ranges.Goals as goal

pub returns-then-made : goal.returns-then-made
returns-then-made c = search ranges_there

pub loop-f-init : goal.loop-f-init
loop-f-init c = search (scanning_starts, ranging_starts)

pub narrow-requires : goal.narrow-requires
narrow-requires c = (search scanning_stated, ranging_interpreted c.open_ranges.ensures c.loop-f.invariant.walk.holds c.requires.interpreted)

pub loop-f-smaller : goal.loop-f-smaller
loop-f-smaller c = search scanning_falls

pub loop-f-preserved : goal.loop-f-preserved
loop-f-preserved c = scanning_on c.loop-f.invariant c.loop-f-test.true c.fact_next-f.ensures (ranging_on c.narrow.ensures)

pub shape_of-work : goal.shape_of-work
shape_of-work c = c.loop-f.invariant.walk.holds.only.size ∙ c.open_ranges.ensures.only.size

pub returns : goal.returns
returns c = ranging_ends c.open_ranges.ensures c.requires.interpreted (scanning_ends c.loop-f.invariant c.loop-f-test.false)
