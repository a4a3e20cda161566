-- `node`: its own conjuncts, those of the roles that join it, and its row.
use borrow.Author.Rules.{rules}
use Rattle.normal_form.proofs.Nodes.{gather_can, noded, own_good, own_room, role_small, row_entry}
use Rattle.normal_form.proofs.node.Goals as goal

pub start_classes-requires : goal.start_classes-requires
start_classes-requires c = (search role_small, search rules)

pub chain-own-requires : goal.chain-own-requires
chain-own-requires c = (search own_good, search own_room)

pub gather-all-requires : goal.gather-all-requires
gather-all-requires c = search (gather_can, c.requires)

pub put_individual-requires : goal.put_individual-requires
put_individual-requires c = row_entry c.requires c.place.ensures c.chain-own.ensures.only c.gather-all.ensures.added.only

pub returns : goal.returns
returns c = noded c.requires c.child_of-child.ensures c.name_of.ensures c.start_classes.ensures c.place.ensures c.chain-own.ensures c.gather-all.ensures c.put_individual.ensures
