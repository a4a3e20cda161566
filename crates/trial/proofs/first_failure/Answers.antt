-- `first_failure`.
use Rattle.trial.proofs.Starting.{triable_formed, whole_taken}
use Rattle.trial.proofs.first_failure.Goals as goal

pub is_taken_whole-requires : goal.is_taken_whole-requires
is_taken_whole-requires c = search triable_formed

pub returns-then-is_taken_whole : goal.returns-then-is_taken_whole
returns-then-is_taken_whole c = search whole_taken

pub first_split_failure-requires : goal.first_split_failure-requires
first_split_failure-requires c = c.requires

pub shape_of-work : goal.shape_of-work
shape_of-work c = c.first_split_failure.ensures.only.size

pub returns : goal.returns
returns c = c.first_split_failure.ensures
