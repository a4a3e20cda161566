use mathlib.Core.Path.{◌∙◌}
use native.Mathlib.Omega.{arith}
use Rattle.frames.proofs.Rows.{length_row}
use Rattle.frames.specs.Rows.{row_at}
use Rattle.normal_form.proofs.Several.{copied_normalised, copied_same, room_copied}
use Rattle.normal_form.proofs.normalise_all.Goals as goal

pub copy-requires : goal.copy-requires
copy-requires c =
    let a = c.args in
    let l = length_row a.n a.terms.now 0 (omega (arith, c.requires.1)) in
    let few = c.requires.0.few in
    let long = c.requires.0.long in
    (omega (arith, c.requires.1), omega arith)

pub successors-requires : goal.successors-requires
successors-requires c =
    let a = c.args in
    room_copied a.p.now a.work.now (row_at a.n a.terms.now 0) c.requires.0 c.copy.ensures (length_row a.n a.terms.now 0 (omega (arith, c.requires.1)))

pub shape_of-work : goal.shape_of-work
shape_of-work c =
    let a = c.args in
    c.successors.ensures.only.size ∙ copied_same a.p.now a.work.now (row_at a.n a.terms.now 0) c.requires.0 c.copy.ensures

pub returns : goal.returns
returns c =
    let a = c.args in
    copied_normalised a.p.now a.work.now (row_at a.n a.terms.now 0) c.requires.0 a.f c.copy.ensures
    (length_row a.n a.terms.now 0 (omega (arith, c.requires.1))) c.successors.ensures
