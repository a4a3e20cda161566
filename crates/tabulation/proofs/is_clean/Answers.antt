use Rattle.tabulation.proofs.Cleanness.{clean_empty, clean_listed}
use Rattle.tabulation.proofs.is_clean.Goals as goal

pub returns-then-are_nonempty : goal.returns-then-are_nonempty
returns-then-are_nonempty c = clean_listed _ _ c.are_nonempty.ensures c.if-are_nonempty.true c.are_compatible.ensures

pub returns-else-are_nonempty : goal.returns-else-are_nonempty
returns-else-are_nonempty c = clean_empty _ _ c.are_nonempty.ensures c.if-are_nonempty.false
