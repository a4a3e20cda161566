-- `compare`: the short way in both directions, then what it leaves.
use borrow.Author.Rules.{rules}
use mathlib.Core.Path.{◌∙◌}
use Rattle.equality.proofs.Comparing.{both_found, both_stopped, compares_first, compares_second}
use Rattle.frames.proofs.Frames.{only_then}
use Rattle.short_way.proofs.Passing.{ready_back, ready_still}
use Rattle.equality.proofs.compare.Goals as goal

pub find_stop-forth-requires : goal.find_stop-forth-requires
find_stop-forth-requires c = c.requires

pub find_stop-back-requires : goal.find_stop-back-requires
find_stop-back-requires c = let r = c.requires in (r.0, ready_back (ready_still r.1 c.find_stop-forth.ensures.only))

pub settle_from-requires : goal.settle_from-requires
settle_from-requires c =
    let r = c.requires in
    let h = c.find_stop-forth.ensures in
    let i = c.find_stop-back.ensures in
    (r.0, (both_stopped r.1 h.only i.only h.stops_by i.stops_by).second)

pub shape_of-work-in_default : goal.shape_of-work-in_default
shape_of-work-in_default c = c.settle_from.ensures.only.size ∙ c.find_stop-back.ensures.only.size ∙ c.find_stop-forth.ensures.only.size

pub shape_of-out-in_default : goal.shape_of-out-in_default
shape_of-out-in_default c = c.settle_from.ensures.out_len_unchanged

pub returns-in_default : goal.returns-in_default
returns-in_default c =
    let h = c.find_stop-forth.ensures in
    let i = c.find_stop-back.ensures in
    let s = c.settle_from.ensures in record {
      compared_by = λ v r.
          let b = both_stopped r h.only i.only h.stops_by i.stops_by in
          compares_second b (search rules) (s.settles_from v b.second) c.sided.ensures;
      only = only_then (only_then h.only i.only) s.only;
      out_len_unchanged = s.out_len_unchanged;
    }

pub settle_from-requires-in_default-back : goal.settle_from-requires-in_default-back
settle_from-requires-in_default-back c =
    let r = c.requires in
    let h = c.find_stop-forth.ensures in
    let i = c.find_stop-back.ensures in
    (r.0, rw c.in-Some.is at (both_stopped r.1 h.only i.only h.stops_by i.stops_by).first)

pub shape_of-work-in_default-back : goal.shape_of-work-in_default-back
shape_of-work-in_default-back c = c.settle_from-in_default-back.ensures.only.size ∙ c.find_stop-back.ensures.only.size ∙ c.find_stop-forth.ensures.only.size

pub shape_of-out-in_default-back : goal.shape_of-out-in_default-back
shape_of-out-in_default-back c = c.settle_from-in_default-back.ensures.out_len_unchanged

pub returns-in_default-back : goal.returns-in_default-back
returns-in_default-back c =
    let h = c.find_stop-forth.ensures in
    let i = c.find_stop-back.ensures in
    let s = c.settle_from-in_default-back.ensures in record {
      compared_by = λ v r.
          let b = both_stopped r h.only i.only h.stops_by i.stops_by in
          compares_first b (search rules) (s.settles_from v (rw c.in-Some.is at b.first)) c.sided-in_default-back.ensures;
      only = only_then (only_then h.only i.only) s.only;
      out_len_unchanged = s.out_len_unchanged;
    }

pub compare_split-requires : goal.compare_split-requires
compare_split-requires c =
    let r = c.requires in
    let h = c.find_stop-forth.ensures in
    let i = c.find_stop-back.ensures in
    (r.0, both_found (both_stopped r.1 h.only i.only h.stops_by i.stops_by) c.in-Some.is c.in-Some-back.is)

pub shape_of-work : goal.shape_of-work
shape_of-work c = c.compare_split.ensures.only.size ∙ c.find_stop-back.ensures.only.size ∙ c.find_stop-forth.ensures.only.size

pub shape_of-out : goal.shape_of-out
shape_of-out c = c.compare_split.ensures.out_len_unchanged

pub returns : goal.returns
returns c =
    let h = c.find_stop-forth.ensures in
    let i = c.find_stop-back.ensures in
    let s = c.compare_split.ensures in
    record { compared_by = λ v r. s.compared_from v (both_found (both_stopped r h.only i.only h.stops_by i.stops_by) c.in-Some.is c.in-Some-back.is); only = only_then (only_then h.only i.only) s.only; out_len_unchanged = s.out_len_unchanged }
