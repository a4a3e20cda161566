use Rattle.entries.proofs.Classes.{continues_else}
use Rattle.entries.proofs.does_continue.Goals as goal

pub returns-else-more : goal.returns-else-more
returns-else-more c = search continues_else
