-- `settle`: what the short way leaves is settled.
use mathlib.Core.Path.{◌∙◌}
use Rattle.decision.proofs.Policies.{pair_stopped}
use Rattle.frames.proofs.Frames.{only_then}
use Rattle.containment.proofs.settle.Goals as goal

pub find_stop-stop-requires : goal.find_stop-stop-requires
find_stop-stop-requires c = c.requires

pub settle_from-requires : goal.settle_from-requires
settle_from-requires c =
    let r = c.requires in
    let h = c.find_stop-stop.ensures in
    (r.0, pair_stopped r.1 h.only h.stops_by)

pub shape_of-work : goal.shape_of-work
shape_of-work c = c.settle_from.ensures.only.size ∙ c.find_stop-stop.ensures.only.size

pub shape_of-out : goal.shape_of-out
shape_of-out c = c.settle_from.ensures.out_len_unchanged

pub returns : goal.returns
returns c =
    let h = c.find_stop-stop.ensures in
    let s = c.settle_from.ensures in
    record { settled_by = λ v r. s.settles_from v (pair_stopped r h.only h.stops_by); only = only_then h.only s.only; out_len_unchanged = s.out_len_unchanged }
