use mathlib.Core.Path.{◌∙◌}
use Rattle.satisfaction.proofs.is_member.Goals as goal

pub returns : goal.returns
returns c = c.has_at.ensures ∙ rw c.class_place.ensures
