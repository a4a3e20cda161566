-- `ClassSet::has_at`: the test of the part.
use mathlib.Core.List.{List}
use mathlib.Core.Path.{◌∙◌, ap}
use Prim.Native.Nat.{ℕ}
use Rattle.frames.proofs.Rows.{row_part}
use Rattle.words.specs.Rows.{class_words}
use Rattle.words.specs.Sets.{in_set}
use Rattle.words.proofs.ClassSet.has_at.Goals as goal

pub returns : goal.returns
returns c =
    let a = c.args in
    c.has.ensures ∙ ap (λ (l : List ℕ). in_set l a.c.0) (row_part class_words a.words.now a.at)
