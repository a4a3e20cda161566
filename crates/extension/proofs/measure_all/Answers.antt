use native.Mathlib.Omega.{arith}
use borrow.Author.Rules.{rules}
use mathlib.Core.Path.{◌∙◌}
use lib.ListN.{length-set}
use Rattle.satisfaction.specs.Places.{heights_at}
use Rattle.extension.proofs.Heights.{measuring_ends, measuring_on, measuring_starts}
use Rattle.extension.proofs.measure_all.Goals as goal

pub loop-k-init : goal.loop-k-init
loop-k-init c = measuring_starts c.args.work.now c.requires.1 c.last_record-k.ensures

pub height-h-requires : goal.height-h-requires
height-h-requires c = (c.requires.0, c.loop-k.invariant.long)

pub bounds-work-place : goal.bounds-work-place
bounds-work-place c = let b = c.loop-k.invariant.bound in let f = c.requires.0.few in let g = c.loop-k.invariant.long in search rules

pub loop-k-preserved : goal.loop-k-preserved
loop-k-preserved c = measuring_on c.requires.0 c.loop-k.invariant (λ e. omega arith) c.height-h.ensures c.place.ensures (search rules)

pub shape_of-work : goal.shape_of-work
shape_of-work c = c.loop-k.invariant.only.size ∙ length-set c.args.work.now heights_at 0

pub returns : goal.returns
returns c = measuring_ends c.args.work.now c.requires.1 c.loop-k.invariant (omega arith)
