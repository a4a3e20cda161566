use Prim.Native.Nat.{ℕ}
use mathlib.Core.Path.{◌∙◌, ap}
use native.Mathlib.Omega.{arith}
use Rattle.frames.specs.Rows.{row_at}
use Rattle.words.specs.Rows.{class_words}
use Rattle.closure.proofs.row.Goals as goal

pub load-requires : goal.load-requires
load-requires c = omega (arith, c.row_at.ensures, c.requires.0, c.requires.1)

pub returns : goal.returns
returns c = c.load.ensures ∙ ap (λ (at : ℕ). row_at class_words c.args.work.now at) c.row_at.ensures
