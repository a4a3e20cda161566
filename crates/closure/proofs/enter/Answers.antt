use Rattle.closure.proofs.Raising.{enter_below}
use Rattle.closure.proofs.enter.Goals as goal

pub returns : goal.returns
returns c =
    let a = c.args in
    let b = c.in-Some-Below in
    enter_below a.v.now a.heads.now a.next.now a.k c.requires _ (rw b.field-0-is at b.ensures.kind) c.place.ensures
