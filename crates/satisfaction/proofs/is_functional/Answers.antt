use mathlib.Core.Bool.{not}
use mathlib.Core.Path.{ap}
use Rattle.satisfaction.proofs.is_functional.Goals as goal

pub returns : goal.returns
returns c = ap not c.has.ensures
