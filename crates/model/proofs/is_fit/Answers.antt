use Rattle.model.proofs.Laws.{edge_fits, member_fits, unknown, value_fits}
use Rattle.model.proofs.is_fit.Goals as goal

pub returns-in-1 : goal.returns-in-1
returns-in-1 c = search member_fits

pub returns-in-2 : goal.returns-in-2
returns-in-2 c = search edge_fits

pub returns-in-3 : goal.returns-in-3
returns-in-3 c = search value_fits

pub returns-in_default : goal.returns-in_default
returns-in_default c = search unknown
