-- Sets of numbers, from 1, in a row of 32-bit words, as many words as there are.
use Rattle.std.specs.Prelude.{◌%◌, ◌*◌, ◌+◌, ◌/◌, ◌^◌, suc, zero, ℕ, Bool, false, eqb, get_or, length, set}
use mathlib.Core.List.{List, [], ◌∷◌, foldl}
use Rattle.std.specs.Int.Bits.{bit_or}

-- bit k of the word w is set
abbrev pub test_bit : ℕ → ℕ → Bool
test_bit w k = eqb (w / 2 ^ k % 2) 1

-- the greatest number that the words have a bit for
abbrev pub capacity : List ℕ → ℕ
capacity ws = 32 * length ws

-- the number c is in the set: bit (c - 1) % 32 of word (c - 1) / 32
unfoldable pub in_set : List ℕ → ℕ → Bool
in_set ws zero = false
in_set ws (suc i) = test_bit (get_or ws (i / 32) 0) (i % 32)

-- the words with the bit of c set; a number that they have no bit for changes nothing
unfoldable pub including : List ℕ → ℕ → List ℕ
including ws zero = ws
including ws (suc i) = set ws (i / 32) (bit_or (get_or ws (i / 32) 0) (2 ^ (i % 32)))

-- the words with the bits of the numbers of a list set, one after another
unfoldable pub including_all : List ℕ → List ℕ → List ℕ
including_all ws l = foldl including ws l

-- the union, word by word
unfoldable pub union_of : List ℕ → List ℕ → List ℕ
union_of [] vs = []
union_of (w ∷ ws) [] = w ∷ ws
union_of (w ∷ ws) (v ∷ vs) = bit_or w v ∷ union_of ws vs

-- the words' sum: it grows with the set
unfoldable pub word_sum : List ℕ → ℕ
word_sum [] = 0
word_sum (w ∷ ws) = w + word_sum ws
