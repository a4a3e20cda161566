-- `compare_split`: the ends of both policies are collected once, for the counts and for the trials.
use mathlib.Core.Path.{◌∙◌, refl, sym}
use lib.Seq.{length-take-le}
use native.Mathlib.Omega.{arith}
use Rattle.equality.proofs.Comparing.{compares_22, compares_both, compares_none, second_still}
use Rattle.frames.proofs.Frames.{only_then}
use Rattle.short_way.proofs.Passing.{ready_accepts}
use Rattle.splitting.proofs.Callers.{collectable}
use Rattle.equality.proofs.compare_split.Goals as goal

pub collect-n-requires : goal.collect-n-requires
collect-n-requires c = collectable _ c.requires.1.first.ready.first (omega arith)

pub slice_bounds-room-end : goal.slice_bounds-room-end
slice_bounds-room-end c = c.collect-n.ensures.within

pub slice_bounds-first-end : goal.slice_bounds-first-end
slice_bounds-first-end c = sym (length-take-le _ _ c.collect-n.ensures.within)

pub collect-m-requires : goal.collect-m-requires
collect-m-requires c = collectable _ c.requires.1.first.ready.second (omega arith)

pub slice_bounds-space-end : goal.slice_bounds-space-end
slice_bounds-space-end c = c.collect-m.ensures.within

pub slice_bounds-second-end : goal.slice_bounds-second-end
slice_bounds-second-end c = sym (length-take-le _ _ c.collect-m.ensures.within)

pub has_too_many-many-requires : goal.has_too_many-many-requires
has_too_many-many-requires c = let r = c.requires in (r.1.first.ready.full, (r.0, ready_accepts r.1.first.ready))

pub has_too_many-more-requires : goal.has_too_many-more-requires
has_too_many-more-requires c =
    let r = c.requires in
    let s = second_still r.1 c.has_too_many-many.ensures.only in
    (s.ready.full, (r.0, ready_accepts s.ready))

pub shape_of-work-then-many-more : goal.shape_of-work-then-many-more
shape_of-work-then-many-more c = c.has_too_many-more.ensures.only.size ∙ c.has_too_many-many.ensures.only.size

pub returns-then-many-more : goal.returns-then-many-more
returns-then-many-more c =
    let h = c.has_too_many-many.ensures in
    let i = c.has_too_many-more.ensures in
    let x = c.collect-n.ensures.ends in
    let y = c.collect-m.ensures.ends in record { compared_from = λ v b. compares_22 _ b (h.counts v (ready_accepts b.first.ready) _ y) (i.counts v (ready_accepts (second_still b h.only).ready) _ x) c.if-many-more.true; only = only_then h.only i.only; out_len_unchanged = refl }

pub differ-requires : goal.differ-requires
differ-requires c =
    let r = c.requires in
    let h = c.has_too_many-many.ensures in
    let i = c.has_too_many-more.ensures in
    let x = c.collect-n.ensures.ends in
    let y = c.collect-m.ensures.ends in
    let b = r.1 in
    let many = h.counts r.0 (ready_accepts b.first.ready) _ y in
    let more = i.counts r.0 (ready_accepts (second_still b h.only).ready) _ x in
    record { prepared = (r.0, compares_none c.args.out.now b many more c.if-many-more.false (only_then h.only i.only)); both_ends = (x, y) }

pub shape_of-work : goal.shape_of-work
shape_of-work c = c.differ.ensures.only.size ∙ c.has_too_many-more.ensures.only.size ∙ c.has_too_many-many.ensures.only.size

pub shape_of-out : goal.shape_of-out
shape_of-out c = c.differ.ensures.out_len_unchanged

pub returns : goal.returns
returns c =
    let h = c.has_too_many-many.ensures in
    let i = c.has_too_many-more.ensures in
    let x = c.collect-n.ensures.ends in
    let y = c.collect-m.ensures.ends in
    let d = c.differ.ensures in
    let o = only_then h.only i.only in record {
      compared_from = λ v b.
          let many = h.counts v (ready_accepts b.first.ready) _ y in
          let more = i.counts v (ready_accepts (second_still b h.only).ready) _ x in
          let none = compares_none c.args.out.now b many more c.if-many-more.false o in
          compares_both c.args.out.now b many more c.if-many-more.false (d.difference_by v none);
      only = only_then o d.only;
      out_len_unchanged = d.out_len_unchanged;
    }
