-- `part`: from after the word count to the next part.
use Rattle.input.proofs.Words.{part_taken}
use Rattle.input.proofs.part.Goals as goal

pub returns : goal.returns
returns c = part_taken _ _ _ c.next_part-to.ensures.value
