use borrow.Author.Rules.{rules}
use mathlib.Core.Path.{◌∙◌}
use native.Mathlib.Omega.{arith}
use Rattle.extension.proofs.Policies.{extended, sized}
use Rattle.extension.proofs.Rounds.{settled_starts}
use Rattle.extension.proofs.is_inside.Goals as goal

pub mark_all-requires : goal.mark_all-requires
mark_all-requires c = (sized c.requires.1, c.requires.0, c.requires.2)

pub measure_all-top-requires : goal.measure_all-top-requires
measure_all-top-requires c = let s = c.mark_all.ensures.only.size in let l = c.requires.0.long in (sized c.requires.1, omega arith)

pub settle_all-requires : goal.settle_all-requires
settle_all-requires c = (sized c.requires.1, settled_starts c.requires.0 c.mark_all.ensures c.measure_all-top.ensures, search rules)

pub is_in_some-requires : goal.is_in_some-requires
is_in_some-requires c = (c.requires.1, c.settle_all.ensures.settled, c.measure_all-top.ensures.topped)

pub shape_of-work : goal.shape_of-work
shape_of-work c = c.settle_all.ensures.only.size ∙ (c.measure_all-top.ensures.only.size ∙ c.mark_all.ensures.only.size)

pub returns : goal.returns
returns c = extended c.mark_all.ensures c.measure_all-top.ensures c.settle_all.ensures.settled c.settle_all.ensures.only c.is_in_some.ensures
