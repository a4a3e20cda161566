use Rattle.entries.proofs.Ordering.{rank_constraint, rank_role}
use Rattle.entries.proofs.rank.Goals as goal

pub returns-then-kind-eq4 : goal.returns-then-kind-eq4
returns-then-kind-eq4 c = search rank_constraint

pub returns-else-kind-eq4 : goal.returns-else-kind-eq4
returns-else-kind-eq4 c = search rank_role
