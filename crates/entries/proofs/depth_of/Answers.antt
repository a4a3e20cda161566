use Rattle.entries.proofs.Reading.{depth_read}
use Rattle.entries.proofs.depth_of.Goals as goal

pub returns : goal.returns
returns c = search depth_read
