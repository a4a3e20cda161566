-- `search_few`.
use native.Mathlib.Omega.{arith}
use Rattle.trial.proofs.Starting.{few_remember}
use Rattle.trial.proofs.search_few.Goals as goal

pub search-requires : goal.search-requires
search-requires c = let r = c.requires in record { searchable = (r, omega arith); remembers = few_remember r }
