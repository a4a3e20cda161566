use borrow.Author.Rules.{rules}
use mathlib.Core.Path.{◌≡◌}
use native.Mathlib.Omega.{arith}
use Rattle.spans.proofs.Values.{batches_on, batches_start}
use Rattle.spans.proofs.mark_batches.Goals as goal

pub loop-first-init : goal.loop-first-init
loop-first-init c = (search rules, batches_start c.args.p.now c.args.m.now c.args.work.now, search rules, search rules)

pub overflow_add-first : goal.overflow_add-first
overflow_add-first c = let f = c.requires.0.few in search rules

pub mark_batch-requires : goal.mark_batch-requires
mark_batch-requires c =
    let pre = c.requires in
    let x = c.loop-first.invariant in
    let s = x.1.only.size in
    let l = pre.0.long in
    let r = pre.0.room in
    let f = pre.0.few in
    let a = x.2 in
    let b = x.3 in
    record {
      markable = record { readable = pre.0.readable; long = omega arith; room = omega arith; few = omega arith };
      order = omega arith;
      cuts = omega arith;
      batch = omega arith;
    }

pub loop-first-preserved : goal.loop-first-preserved
loop-first-preserved c = (search rules, batches_on (omega arith) (omega arith) c.loop-first.invariant.1 c.mark_batch.ensures, search rules, search rules)

pub shape_of-work : goal.shape_of-work
shape_of-work c = c.loop-first.invariant.1.only.size

pub returns : goal.returns
returns c =
    let x = c.loop-first in
    let e : x.first ≡ c.args.last = omega arith in
    rw e at x.invariant.1
