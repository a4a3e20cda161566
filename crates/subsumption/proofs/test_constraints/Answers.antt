use borrow.Author.Rules.{rules}
use Rattle.subsumption.proofs.Pieces.{pieces_behind, pieces_end, pieces_found}
use Rattle.subsumption.proofs.test_constraints.Goals as goal

pub returns-then-holder_of-x : goal.returns-then-holder_of-x
returns-then-holder_of-x c = search (rules, pieces_behind)

pub returns-then-is_whole_inside : goal.returns-then-is_whole_inside
returns-then-is_whole_inside c = search (rules, pieces_found)

pub returns : goal.returns
returns c = search (rules, pieces_end)
