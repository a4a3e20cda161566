use native.Mathlib.Omega.{arith}
use Rattle.model.proofs.Chain.{scanning_ends, scanning_falls, scanning_on, scanning_starts, scanning_stated}
use Rattle.spans.proofs.Joining.{handing_ends, handing_on, handing_starts}
use Rattle.spans.proofs.Tables.{tabled}
use Rattle.spans.proofs.Values.{values_marked, values_none}
use Rattle.spans.specs.Cuts.{spans_among}
use Rattle.spans.proofs.mark_batch.Goals as goal

pub cut_all-n-requires : goal.cut_all-n-requires
cut_all-n-requires c = let f = c.requires.markable.few in let b = c.requires.batch in record { order = c.requires.order; few = f; room = omega arith }

pub returns-then-n-eq0 : goal.returns-then-n-eq0
returns-then-n-eq0 c =
    values_none c.args.p.now c.args.m.now (λ i. omega (arith, c.type_inv.p i)) (λ i. omega (arith, c.type_inv.m i))
    c.requires.markable.readable c.cut_all-n.ensures c.if-n-eq0.true

pub mark_spans-requires : goal.mark_spans-requires
mark_spans-requires c = let pre = c.requires in let n = c.cut_all-n.ensures.few in let r = pre.markable.room in record { cuts = omega arith; room = omega arith; order = pre.order; few = pre.markable.few }

pub loop-f-init : goal.loop-f-init
loop-f-init c = scanning_starts c.requires.markable.readable c.first_fact-f.ensures handing_starts

pub mark_value-requires : goal.mark_value-requires
mark_value-requires c =
    let pre = c.requires in
    let l = pre.markable.long in
    let r = pre.markable.room in
    let s = c.loop-f.invariant.walk.holds.only.size in
    let n = c.cut_all-n.ensures.few in
    record { stated = scanning_stated c.loop-f.invariant c.loop-f-test.true; readable = pre.markable.readable; long = omega arith; room = omega arith; cuts = omega arith }

pub loop-f-smaller : goal.loop-f-smaller
loop-f-smaller c = search scanning_falls

pub loop-f-preserved : goal.loop-f-preserved
loop-f-preserved c =
    let pre = c.requires in
    let cut = c.cut_all-n.ensures in
    let n = cut.few in
    scanning_on c.loop-f.invariant c.loop-f-test.true c.fact_next-f.ensures
    (handing_on (c.mark_value.ensures.hands (spans_among c.args.p.now c.args.first c.args.last) (tabled (omega arith) cut c.mark_spans.ensures)))

pub shape_of-work : goal.shape_of-work
shape_of-work c = c.loop-f.invariant.walk.holds.only.size

pub returns : goal.returns
returns c =
    values_marked c.args.p.now c.args.m.now (λ i. omega (arith, c.type_inv.p i)) (λ i. omega (arith, c.type_inv.m i))
    c.requires.markable.readable (handing_ends (scanning_ends c.loop-f.invariant c.loop-f-test.false))
