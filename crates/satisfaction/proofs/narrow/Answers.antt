use borrow.Author.Rules.{rules}
use Rattle.satisfaction.proofs.Facts.{target_named}
use Rattle.satisfaction.proofs.Ranges.{narrow_apart, narrow_edge, narrow_none, narrow_past, role_named, role_room}
use Rattle.satisfaction.proofs.narrow.Goals as goal

pub returns-then-fact_kind-ne2 : goal.returns-then-fact_kind-ne2
returns-then-fact_kind-ne2 c = search narrow_none

pub returns-then-not-is_name : goal.returns-then-not-is_name
returns-then-not-is_name c = search narrow_past

pub range_place-requires : goal.range_place-requires
range_place-requires c = search role_named

pub class_place-requires : goal.class_place-requires
class_place-requires c = search (target_named, rules)

pub intersect-requires : goal.intersect-requires
intersect-requires c = (search (narrow_apart, role_named, target_named, rules), search (role_room, role_named))

pub returns : goal.returns
returns c = search (narrow_edge, role_named)
