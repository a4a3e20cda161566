use borrow.Author.Rules.{rules}
use Rattle.layout.specs.Tables.{piece_at}
use Rattle.layout.proofs.piece_hi.Goals as goal

pub returns : goal.returns
unfolding piece_at
returns c = search rules
