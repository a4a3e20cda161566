use mathlib.Core.Path.{◌∙◌}
use lib.ListN.{length-set}
use Rattle.normal_form.proofs.Forms.{normalised, root_room}
use Rattle.normal_form.proofs.normalise.Goals as goal

pub successors-requires : goal.successors-requires
successors-requires c = root_room c.args.p.now c.args.work.now c.args.s c.requires

pub shape_of-work : goal.shape_of-work
shape_of-work c = c.successors.ensures.only.size ∙ simp length-set

pub returns : goal.returns
returns c =
    let a = c.args in
    normalised a.p.now a.work.now a.s c.requires a.f c.successors.ensures
