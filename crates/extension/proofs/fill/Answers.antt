use mathlib.Core.Path.{◌∙◌}
use native.Mathlib.Omega.{arith}
use Rattle.extension.proofs.Columns.{fill_both, fill_none}
use Rattle.extension.proofs.fill.Goals as goal

pub returns-then-not-is_due : goal.returns-then-not-is_due
returns-then-not-is_due c = search fill_none

pub fill_mask-requires : goal.fill_mask-requires
fill_mask-requires c = let s = c.fill_column.ensures.only.size in let r = c.requires.room in (c.requires.conjunct, omega arith)

pub shape_of-columns : goal.shape_of-columns
shape_of-columns c = c.fill_mask.ensures.only.size ∙ c.fill_column.ensures.only.size

pub returns : goal.returns
returns c = search fill_both
