use native.Mathlib.Omega.{arith}
use Rattle.tabulation.proofs.Laws.{shape_impossible, shape_non_empty}
use Rattle.tabulation.proofs.shape.Goals as goal

pub normalise-t-requires : goal.normalise-t-requires
normalise-t-requires c = c.requires

pub shape_of-work-then-t : goal.shape_of-work-then-t
shape_of-work-then-t c = c.normalise-t.ensures.only.size

pub returns-then-t : goal.returns-then-t
returns-then-t c = shape_impossible c.requires.long c.normalise-t.ensures c.if-t.true

pub are_nonempty-nonempty-requires : goal.are_nonempty-nonempty-requires
are_nonempty-nonempty-requires c =
    let n = c.normalise-t.ensures in
    (n.most.1, omega arith)

pub shape_of-work : goal.shape_of-work
shape_of-work c = c.normalise-t.ensures.only.size

pub returns : goal.returns
returns c = shape_non_empty c.requires.long c.normalise-t.ensures c.if-t.false c.are_nonempty-nonempty.ensures
