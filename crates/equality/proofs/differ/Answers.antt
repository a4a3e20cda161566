-- `differ`: by the verdict of the first direction.
use mathlib.Core.Path.{◌∙◌, ap}
use lib.ListN.{length}
use Rattle.std.specs.Prelude.{Ok}
use Rattle.equality.proofs.Comparing.{back_countable, differs_back, differs_outside, differs_refused}
use Rattle.equality.specs.Comparisons.{Compares, difference}
use Rattle.frames.proofs.Frames.{only_then}
use Rattle.theory.proofs.Numbers.{handed_on}
use Rattle.equality.proofs.differ.Goals as goal

pub decide-requires : goal.decide-requires
decide-requires c = let r = c.requires in ((r.prepared.0, r.prepared.1.first), r.both_ends.1)

pub returns-in_err-verdict : goal.returns-in_err-verdict
returns-in_err-verdict c =
    let a = c.args in
    let d = c.decide.ensures in record {
      difference_by = λ v h. handed_on (Compares (difference v a.p.now a.q.now (length a.out.now)) a.out.now c.decide.new.out) c.from_residual.result c.from_residual.ensures.1
          (differs_refused v a.p.now a.q.now (d.decides v h.first) c.in_err-verdict.was);
      only = d.only;
      out_len_unchanged = d.out_len_unchanged;
    }

pub decide-requires-in-Compliant : goal.decide-requires-in-Compliant
decide-requires-in-Compliant c = let r = c.requires in ((r.prepared.0, back_countable r.prepared.1 c.decide.ensures.only), r.both_ends.0)

pub shape_of-work-in-Compliant : goal.shape_of-work-in-Compliant
shape_of-work-in-Compliant c = c.decide-in-Compliant.ensures.only.size ∙ c.decide.ensures.only.size

pub shape_of-out-in-Compliant : goal.shape_of-out-in-Compliant
shape_of-out-in-Compliant c = c.decide-in-Compliant.ensures.out_len_unchanged ∙ c.decide.ensures.out_len_unchanged

pub returns-in-Compliant : goal.returns-in-Compliant
returns-in-Compliant c =
    let a = c.args in
    let d = c.decide.ensures in
    let e = c.decide-in-Compliant.ensures in record {
      difference_by = λ v h. differs_back v a.p.now a.q.now (d.decides v h.first) (c.in_ok-verdict.was ∙ ap Ok c.in-Compliant.is) (e.decides v (back_countable h d.only)) c.sided.ensures;
      only = only_then d.only e.only;
      out_len_unchanged = e.out_len_unchanged ∙ d.out_len_unchanged;
    }

pub shape_of-work-in-Outside : goal.shape_of-work-in-Outside
shape_of-work-in-Outside c = c.decide.ensures.only.size

pub shape_of-out-in-Outside : goal.shape_of-out-in-Outside
shape_of-out-in-Outside c = c.decide.ensures.out_len_unchanged

pub returns-in-Outside : goal.returns-in-Outside
returns-in-Outside c =
    let a = c.args in
    let d = c.decide.ensures in record {
      difference_by = λ v h. differs_outside v a.p.now a.q.now (d.decides v h.first) (c.in_ok-verdict.was ∙ ap Ok c.in-Outside.is);
      only = d.only;
      out_len_unchanged = d.out_len_unchanged;
    }
