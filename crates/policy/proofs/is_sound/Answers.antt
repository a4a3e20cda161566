use Rattle.policy.proofs.Laws.{links_sound}
use Rattle.policy.proofs.is_sound.Goals as goal

pub returns : goal.returns
returns c = search links_sound
