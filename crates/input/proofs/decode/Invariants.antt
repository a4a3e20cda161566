-- `decode`: after i turns the first i words stand there.
use mathlib.Core.List.{map}
use mathlib.Core.Path.{◌≡◌}
use lib.ListN.{take}
use Rattle.meaning.specs.Lists.{counting}
use Rattle.meaning.specs.Program.{word_at}
use Rattle.input.proofs.decode.Given as goal

abbrev pub invariant-loop-i : goal.invariant-loop-i
invariant-loop-i l = take l.i l.word-items ≡ map (word_at l.input) (counting 0 l.i)
