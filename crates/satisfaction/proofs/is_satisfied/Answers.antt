use borrow.Author.Rules.{rules}
use Rattle.satisfaction.proofs.Classes.{entered_all}
use Rattle.satisfaction.proofs.Holding.{all_held, records_fail}
use Rattle.satisfaction.proofs.is_satisfied.Goals as goal

pub hold_records-requires : goal.hold_records-requires
hold_records-requires c = (search rules, search entered_all)

pub returns-then-not-hold_records : goal.returns-then-not-hold_records
returns-then-not-hold_records c = search records_fail

pub returns : goal.returns
returns c = search all_held
