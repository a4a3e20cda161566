use Rattle.policy.proofs.Laws.{class_fits, feature_fits, impossible_fits, misplaced, role_fits, term_fits, unknown}
use Rattle.policy.proofs.is_fit.Goals as goal

pub returns-then-not-is_placed : goal.returns-then-not-is_placed
returns-then-not-is_placed c = search misplaced

pub returns-in-1 : goal.returns-in-1
returns-in-1 c = search class_fits

pub returns-in-2 : goal.returns-in-2
returns-in-2 c = search impossible_fits

pub returns-in-3 : goal.returns-in-3
returns-in-3 c = search role_fits

pub returns-in-4 : goal.returns-in-4
returns-in-4 c = search feature_fits

pub returns-in-5 : goal.returns-in-5
returns-in-5 c = search term_fits

pub returns-in_default : goal.returns-in_default
returns-in_default c = search unknown
