-- `count`: the bits of the words passed, at most 32 a word.
use Prim.Native.Nat.{◌*◌, ◌≤◌}
use lib.ListN.{take}
use mathlib.Core.Path.{◌≡◌}
use Rattle.words.specs.Members.{set_bits}
use Rattle.words.proofs.count.Given as goal

abbrev pub invariant-loop-word : goal.invariant-loop-word
invariant-loop-word l = (l.n ≤ 32 * l.word-index) × (l.n ≡ set_bits (take l.word-index l.words))
