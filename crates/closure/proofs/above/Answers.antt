use Prim.Native.Nat.{ℕ}
use mathlib.Core.List.{List}
use mathlib.Core.Path.{◌∙◌, ap}
use Rattle.words.specs.Sets.{in_set}
use Rattle.closure.proofs.above.Goals as goal

pub returns : goal.returns
returns c = record { words_value = c.row.ensures; contains_above = λ v h n d. ap (λ (l : List ℕ). in_set l d) c.row.ensures ∙ h.rows c.args.c.0 d n }
