-- `settle_from`: the ends of the second policy are collected once, for the count and for the trials.
use borrow.Author.Rules.{rules}
use mathlib.Core.Path.{◌∙◌, refl, sym}
use lib.Seq.{length-take-le}
use native.Mathlib.Omega.{arith}
use Rattle.decision.proofs.Policies.{settles_22, settles_short, settles_split, stopped_countable}
use Rattle.frames.proofs.Frames.{only_none, only_then}
use Rattle.short_way.proofs.Passing.{ready_accepts}
use Rattle.splitting.proofs.Callers.{collectable}
use Rattle.decision.proofs.settle_from.Goals as goal

pub returns-in_default : goal.returns-in_default
returns-in_default c = record { settles_from = λ v a. settles_short a _ (search rules); only = only_none; out_len_unchanged = refl }

pub collect-n-requires : goal.collect-n-requires
collect-n-requires c = collectable _ c.requires.1.ready.second (omega arith)

pub slice_bounds-space-end : goal.slice_bounds-space-end
slice_bounds-space-end c = c.collect-n.ensures.within

pub slice_bounds-ends-end : goal.slice_bounds-ends-end
slice_bounds-ends-end c = sym (length-take-le _ _ c.collect-n.ensures.within)

pub has_too_many-many-requires : goal.has_too_many-many-requires
has_too_many-many-requires c = let r = c.requires in (r.1.ready.full, (r.0, ready_accepts r.1.ready))

pub shape_of-work-then-many : goal.shape_of-work-then-many
shape_of-work-then-many c = c.has_too_many-many.ensures.only.size

pub returns-then-many : goal.returns-then-many
returns-then-many c =
    let h = c.has_too_many-many.ensures in
    let e = c.collect-n.ensures.ends in
    record { settles_from = λ v a. settles_22 a c.in-Some.is (h.counts v (ready_accepts a.ready) _ e) _ c.if-many.true; only = h.only; out_len_unchanged = refl }

pub decide-requires : goal.decide-requires
decide-requires c =
    let r = c.requires in
    let h = c.has_too_many-many.ensures in
    let e = c.collect-n.ensures.ends in
    ((r.0, stopped_countable r.1 c.in-Some.is (h.counts r.0 (ready_accepts r.1.ready) _ e) c.if-many.false h.only), e)

pub shape_of-work : goal.shape_of-work
shape_of-work c = c.decide.ensures.only.size ∙ c.has_too_many-many.ensures.only.size

pub shape_of-out : goal.shape_of-out
shape_of-out c = c.decide.ensures.out_len_unchanged

pub returns : goal.returns
returns c =
    let h = c.has_too_many-many.ensures in
    let e = c.collect-n.ensures.ends in
    let d = c.decide.ensures in record {
      settles_from = λ v a.
          let many = h.counts v (ready_accepts a.ready) _ e in
          settles_split a c.in-Some.is many c.if-many.false _ (d.decides v (stopped_countable a c.in-Some.is many c.if-many.false h.only));
      only = only_then h.only d.only;
      out_len_unchanged = d.out_len_unchanged;
    }
