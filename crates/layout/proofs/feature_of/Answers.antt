use borrow.Author.Rules.{rules}
use Rattle.layout.specs.Tables.{constraint_at}
use Rattle.layout.proofs.feature_of.Goals as goal

pub returns : goal.returns
unfolding constraint_at
returns c = search rules
