use mathlib.Core.Path.{◌∙◌}
use Rattle.functional.proofs.Functional.has_feature.Goals as goal

pub returns : goal.returns
returns c = record { value = c.has.ensures; functional = λ v h. c.has.ensures ∙ h.feature c.args.f.0 }
