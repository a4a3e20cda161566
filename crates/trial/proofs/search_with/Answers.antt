-- `search_with`.
use native.Mathlib.Omega.{arith}
use Rattle.trial.proofs.Keeping.{blank}
use Rattle.trial.proofs.search_with.Goals as goal

pub search_in-requires : goal.search_in-requires
search_in-requires g c = record { searchable = c.requires.searchable; carriers_end_in_bounds = (omega arith, blank _, blank _) }
