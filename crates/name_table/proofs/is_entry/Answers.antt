use Rattle.name_table.proofs.Laws.{print_differs}
use Rattle.name_table.proofs.is_entry.Goals as goal

pub returns-else-table-j : goal.returns-else-table-j
returns-else-table-j c = print_differs c.args.name.now c.requires.0 c.requires.2 c.if-table-j.false
