use mathlib.Core.Path.{◌∙◌}
use Rattle.declarations.proofs.Listing.{list_ends, list_on, list_room}
use Rattle.declarations.proofs.list_names.Goals as goal

pub list_one-requires-clause-has_room : goal.list_one-requires-clause-has_room
list_one-requires-clause-has_room c =
    let n = rw c.in-Statement.is at c.in-Some.ensures in
    list_room c.requires c.loop-item.invariant.0 n

pub loop-item-preserved : goal.loop-item-preserved
loop-item-preserved c =
    let w = c.loop-item.invariant in
    let n = rw c.in-Statement.is at c.in-Some.ensures in
    (rw (c.list_one.ensures, c.count_one-c.ensures) (list_on c.requires w.0 n (w.1 ∙ c.requires.size)), c.list_one.auto.table ∙ w.1)

pub returns-in-End : goal.returns-in-End
returns-in-End c =
    let n = rw c.in-End.is at c.in-Some.ensures in
    list_ends c.requires c.loop-item.invariant.0 n
