use borrow.Author.Rules.{rules}
use Rattle.extension.proofs.Edges.{edge_joinable, edge_joined, edge_none, edge_past, edge_role, edge_target}
use Rattle.spans.proofs.Joining.{owner_few}
use Rattle.extension.proofs.mark_edge.Goals as goal

pub returns-then-fact_kind-ne2 : goal.returns-then-fact_kind-ne2
returns-then-fact_kind-ne2 c = search edge_none

pub returns-then-not-is_name : goal.returns-then-not-is_name
returns-then-not-is_name c = search edge_past

pub column_place-requires : goal.column_place-requires
column_place-requires c = search (edge_target, rules)

pub mask_place-requires : goal.mask_place-requires
mask_place-requires c = search edge_role

pub join-requires : goal.join-requires
join-requires c = search (edge_joinable, owner_few, edge_target, edge_role, rules)

pub returns : goal.returns
returns c = search edge_joined
