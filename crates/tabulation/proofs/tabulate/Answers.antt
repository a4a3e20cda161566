use native.Mathlib.Omega.{arith}
use Rattle.tabulation.proofs.Laws.{pairs_still, term_clean, term_impossible}
use Rattle.tabulation.proofs.tabulate.Goals as goal

pub shape-t-requires : goal.shape-t-requires
shape-t-requires c = c.requires.0

pub shape_of-work-then-t : goal.shape_of-work-then-t
shape_of-work-then-t c = c.shape-t.ensures.only.size

pub returns-then-t : goal.returns-then-t
returns-then-t c = term_impossible c.shape-t.ensures c.if-t.true

pub is_clean-clean-requires : goal.is_clean-clean-requires
is_clean-clean-requires c =
    let n = c.shape-t.ensures in
    (omega (arith, pairs_still n.only, c.requires.1), n.standing)

pub shape_of-work : goal.shape_of-work
shape_of-work c = c.shape-t.ensures.only.size

pub returns : goal.returns
returns c = term_clean c.shape-t.ensures c.if-t.false c.is_clean-clean.ensures
