use mathlib.Core.List.{map}
use mathlib.Core.Path.{◌≡◌}
use lib.ListN.{take}
use Rattle.flattening.specs.Flat.{flat_word_at}
use Rattle.meaning.specs.Lists.{counting}
use Rattle.flattening.proofs.flatten.Given as goal

abbrev pub invariant-loop-i : goal.invariant-loop-i
invariant-loop-i l = take l.i l.to-items ≡ map (flat_word_at l.v) (counting 0 l.i)
