use Rattle.policy.proofs.Laws.{headed}
use Rattle.policy.proofs.is_headed.Goals as goal

pub returns : goal.returns
returns c = search headed
