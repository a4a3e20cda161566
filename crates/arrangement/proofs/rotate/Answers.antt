use Rattle.arrangement.proofs.Moving.{rotated_whole}
use Rattle.arrangement.proofs.rotate.Goals as goal

pub returns : goal.returns
returns c = rotated_whole c.requires _ c.copy_from_slice.ensures.after c.copy_from_slice-2.ensures.after c.copy_from_slice-3.ensures.after
