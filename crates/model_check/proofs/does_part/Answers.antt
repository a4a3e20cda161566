use borrow.Author.Rules.{rules}
use Rattle.model_check.proofs.Whole.{not_inside, not_outside}
use Rattle.model_check.proofs.does_part.Goals as goal

pub returns-then-not-is_inside : goal.returns-then-not-is_inside
returns-then-not-is_inside c = search not_inside

pub is_inside-requires-2 : goal.is_inside-requires-2
is_inside-requires-2 c = (c.is_inside.ensures.interpreted, c.requires.second, search rules)

pub returns : goal.returns
returns c = search not_outside
