use borrow.Author.Rules.{rules}
use Rattle.spans.proofs.Joining.{owner_few}
use Rattle.spans.proofs.Values.{value_joinable, value_joined, value_none, value_past}
use Rattle.spans.proofs.mark_value.Goals as goal

pub returns-then-fact_kind-ne3 : goal.returns-then-fact_kind-ne3
returns-then-fact_kind-ne3 c = search value_none

pub returns-then-n-r : goal.returns-then-n-r
returns-then-n-r c = search value_past

pub set_place-requires : goal.set_place-requires
set_place-requires c = search owner_few

pub join-requires : goal.join-requires
join-requires c = search (value_joinable, owner_few, rules)

pub returns : goal.returns
returns c = search value_joined
