use mathlib.Core.Path.{◌∙◌}
use Rattle.satisfaction.proofs.is_range.Goals as goal

pub returns : goal.returns
returns c = c.has_at.ensures ∙ rw c.range_place.ensures
