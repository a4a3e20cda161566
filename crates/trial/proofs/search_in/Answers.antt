-- `search_in`.
use Rattle.trial.proofs.Starting.{blank_remembers, searchable_listable, searchable_positive}
use Rattle.trial.proofs.search_in.Goals as goal

pub list_carriers-requires : goal.list_carriers-requires
list_carriers-requires c = let r = c.requires in (searchable_listable r.searchable, r.carriers_end_in_bounds.0)

pub round_of-round-requires : goal.round_of-round-requires
round_of-round-requires c = searchable_positive c.requires.searchable

pub search-requires : goal.search-requires
search-requires c = let r = c.requires in record { searchable = (r.searchable, c.round_of-round.ensures); remembers = blank_remembers r.searchable c.list_carriers.ensures r.carriers_end_in_bounds.1 r.carriers_end_in_bounds.2 }
