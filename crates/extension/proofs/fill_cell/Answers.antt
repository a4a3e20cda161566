use borrow.Author.Rules.{rules}
use Rattle.extension.proofs.Columns.{cell_filled, cell_none, link_inside}
use Rattle.satisfaction.proofs.Rows.{put_size}
use Rattle.extension.proofs.fill_cell.Goals as goal

pub does_hold-requires : goal.does_hold-requires
does_hold-requires c = (search rules, search rules, search (link_inside, rules), search rules)

pub shape_of-columns : goal.shape_of-columns
shape_of-columns c = search put_size

pub returns-then-does_hold : goal.returns-then-does_hold
returns-then-does_hold c = search cell_filled

pub returns-else-does_hold : goal.returns-else-does_hold
returns-else-does_hold c = search cell_none
