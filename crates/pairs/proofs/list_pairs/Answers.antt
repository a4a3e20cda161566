use mathlib.Core.Path.{◌∙◌}
use lib.ListN.{length-set}
use native.Mathlib.Omega.{arith}
use Rattle.pairs.proofs.Pairs.{listing_ends, listing_on, listing_room, listing_starts}
use Rattle.vocabulary.proofs.Chain.{folding_falls}
use Rattle.pairs.proofs.list_pairs.Goals as goal

pub bounds-work-2560 : goal.bounds-work-2560
bounds-work-2560 c = omega (arith, c.requires.1)

pub loop-k-init : goal.loop-k-init
loop-k-init c =
    listing_starts c.args.v.now c.args.work.now c.requires.0 c.requires.1 c.first_axiom-k.ensures

pub enlist-requires : goal.enlist-requires
enlist-requires c =
    listing_room c.args.v.now c.args.work.now c.requires.0 c.requires.1 c.loop-k.invariant c.loop-k-test.true

pub loop-k-smaller : goal.loop-k-smaller
loop-k-smaller c = folding_falls c.loop-k.invariant.walk c.loop-k-test.true c.axiom_next-k.ensures

pub loop-k-preserved : goal.loop-k-preserved
loop-k-preserved c =
    listing_on c.args.v.now c.args.work.now c.requires.0 c.requires.1 c.loop-k.invariant c.loop-k-test.true c.axiom_next-k.ensures c.enlist.ensures

pub shape_of-work : goal.shape_of-work
shape_of-work c = c.loop-k.invariant.only.size ∙ length-set c.args.work.now _ _

pub returns : goal.returns
returns c =
    listing_ends c.args.v.now c.args.work.now c.requires.0 c.requires.1 c.loop-k.invariant c.loop-k-test.false
