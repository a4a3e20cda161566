use mathlib.Core.Path.{◌∙◌, ap, refl}
use native.Mathlib.Omega.{arith}
use lib.ListN.{length}
use Rattle.closure.proofs.Rows.{joined_only}
use Rattle.closure.proofs.Steps.{join_grows, join_still}
use Rattle.closure.proofs.join.Goals as goal

pub returns-then-covers : goal.returns-then-covers
returns-then-covers c =
    let a = c.args in
    let p = c.requires in
    record { work_after = join_still a.work.now a.i a.j (p.0, p.2) (p.1, p.3) c.row-lower.ensures c.row-upper.ensures c.covers.ensures c.if-covers.true; grown = refl }

pub store-requires : goal.store-requires
store-requires c = omega (arith, c.row_at.ensures, c.requires.0, c.requires.2)

pub returns : goal.returns
returns c =
    let a = c.args in
    let p = c.requires in
    let told = join_grows a.work.now a.i a.j (p.0, p.2) (p.1, p.3) c.row-lower.ensures c.row-upper.ensures c.covers.ensures c.if-covers.false c.union.ensures.words_value c.row_at.ensures c.store.ensures in
    record { work_after = told.0; grown = told.1 }

pub shape_of-work : goal.shape_of-work
shape_of-work c =
    let a = c.args in
    let p = c.requires in
    ap length (returns c).work_after ∙ (joined_only a.work.now a.i a.j (p.0, p.2) (p.1, p.3)).size
