use Rattle.spans.proofs.Cuts.{cuts_none, cuts_two}
use Rattle.spans.proofs.add_cuts.Goals as goal

pub returns-then-kind_of-ne4 : goal.returns-then-kind_of-ne4
returns-then-kind_of-ne4 c = search cuts_none

pub returns : goal.returns
returns c = search cuts_two
