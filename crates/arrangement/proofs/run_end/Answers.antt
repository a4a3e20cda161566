use mathlib.Core.Path.{refl}
use Rattle.arrangement.proofs.Ends.{ending_here, ending_last, ending_more, ending_starts}
use Rattle.entries.proofs.Runs.{has_item}
use Rattle.arrangement.proofs.run_end.Goals as goal

pub depth_of-d-requires : goal.depth_of-d-requires
depth_of-d-requires c = has_item c.requires.items c.args.i refl

pub loop-at-init : goal.loop-at-init
loop-at-init c = let a = c.args in ending_starts a.work.now a.depths.now a.order.now a.i c.depth_of-d.result c.requires.inside

pub depth_of-requires : goal.depth_of-requires
depth_of-requires c = has_item c.requires.items c.loop-at.at refl

pub returns-then-depth_of-d : goal.returns-then-depth_of-d
returns-then-depth_of-d c =
    let a = c.args in
    ending_here a.work.now a.depths.now a.order.now c.depth_of-d.ensures
    c.loop-at.invariant c.loop-at-test.true refl c.depth_of.ensures c.if-depth_of-d.true

pub loop-at-preserved : goal.loop-at-preserved
loop-at-preserved c =
    let a = c.args in
    ending_more a.work.now a.depths.now a.order.now c.loop-at.invariant c.loop-at-test.true refl c.depth_of.ensures c.if-depth_of-d.false

pub returns : goal.returns
returns c =
    let a = c.args in
    ending_last a.work.now a.depths.now a.order.now c.depth_of-d.ensures
    c.loop-at.invariant c.loop-at-test.false
