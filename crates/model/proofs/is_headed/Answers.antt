use Rattle.model.proofs.Laws.{headed}
use Rattle.model.proofs.is_headed.Goals as goal

pub returns : goal.returns
returns c = search headed
