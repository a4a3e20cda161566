use Rattle.model.proofs.Laws.{link_sound}
use Rattle.model.proofs.is_sound.Goals as goal

pub returns : goal.returns
returns c = search link_sound
