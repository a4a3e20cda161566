use Prim.Native.Nat.{ℕ}
use mathlib.Core.List.{List}
use mathlib.Core.Path.{◌∙◌, ap}
use Rattle.words.specs.Sets.{in_set}
use Rattle.closure.proofs.range_above.Goals as goal

pub returns : goal.returns
returns c = record { words_value = c.row.ensures; contains_ranged = λ v h n b. ap (λ (l : List ℕ). in_set l b) c.row.ensures ∙ h.rows c.args.r.0 b n }
