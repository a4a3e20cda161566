use native.Mathlib.Omega.{arith}
use Rattle.frames.proofs.Frames.{only_then}
use Rattle.preparation.proofs.Laws.{worked}
use Rattle.spell.proofs.Laying.{laid_out, laying_fit}
use Rattle.spell.proofs.lay_out.Goals as goal

pub prepare-f-requires : goal.prepare-f-requires
prepare-f-requires c = (c.requires.0, c.requires.2)

pub collect_possible-n-requires : goal.collect_possible-n-requires
collect_possible-n-requires c =
    let q = c.requires in
    let g = c.prepare-f.ensures in
    (omega (arith, q.2, g.only.size), omega arith, (c.args.v.now, record { prepared = g.prepared; policy = q.1 }))

pub prepare_flat-g-requires : goal.prepare_flat-g-requires
prepare_flat-g-requires c =
    let q = c.requires in
    (q.0, omega (arith, q.2, c.prepare-f.ensures.only.size, c.collect_possible-n.ensures.only.size))

pub normalise_all-requires : goal.normalise_all-requires
normalise_all-requires c =
    let q = c.requires in
    let g = c.prepare-f.ensures in
    let t = c.collect_possible-n.ensures in (
      laying_fit q.0 q.1 (t.collected_by.collected c.args.v.now (record { prepared = g.prepared; policy = q.1 }))
          (omega (arith, q.2, g.only.size, t.only.size, c.prepare_flat-g.ensures.only.size)),
      t.collected_by.few,
    )

pub returns : goal.returns
returns c =
    let q = c.requires in
    let g = c.prepare-f.ensures in
    let t = c.collect_possible-n.ensures in
    let h = c.prepare_flat-g.ensures in
    let n = c.normalise_all.ensures in record {
      laid_out = laid_out q.0 q.1 (t.collected_by.collected c.args.v.now (record { prepared = g.prepared; policy = q.1 })) h.prepared n
          (omega (arith, q.2, g.only.size, t.only.size, h.only.size, n.only.size));
      only = only_then (worked g.only t.only) (worked h.only n.only);
    }
