-- `conjunct`: by the record's kind.
use borrow.Author.Rules.{rules}
use Rattle.normal_form.proofs.Conjuncts.{class_row, class_some, conj_bar, conj_class, conj_interval, conj_role, interval_room, role_room}
use Rattle.normal_form.proofs.conjunct.Goals as goal

pub above-requires : goal.above-requires
above-requires c = (search class_some, search class_row)

pub bounds-work-at : goal.bounds-work-at
bounds-work-at c = search (rules, role_room)

pub add_interval-top-requires : goal.add_interval-top-requires
add_interval-top-requires c = search (rules, interval_room)

pub returns-in-1 : goal.returns-in-1
returns-in-1 c = search conj_class

pub returns-in-2 : goal.returns-in-2
returns-in-2 c = search conj_bar

pub returns-in-3 : goal.returns-in-3
returns-in-3 c = search conj_role

pub shape_of-work-in_default : goal.shape_of-work-in_default
shape_of-work-in_default c = c.add_interval-top.ensures.only.size

pub returns-in_default : goal.returns-in_default
returns-in_default c = search conj_interval
