-- The arguments as numbers, and the bytes that are written for them.
use Rattle.std.specs.Prelude.{◌*◌, ◌+◌, ◌-◌, ℕ, Bool, ◌&&◌, cond, List, [], ◌∷◌, leb}
use Rattle.meaning.specs.Limits.{most_classes}
use Rattle.meaning.specs.Program.{bytes_of}
use Rattle.rehearsal.specs.Drawing.{load_size}
use Rattle.rehearsal.specs.Load.{most_terms, rehearse}

-- the greatest number that a word holds
abbrev pub most_word : ℕ
most_word = 4294967295

-- from 0 to 9
abbrev pub is_digit : ℕ → Bool
is_digit b = leb 48 b && leb b 57

-- the number that digits are, v standing before them; 0, which no argument may be, where one is no digit or a word does not hold it
abbrev pub number_from : ℕ → List ℕ → ℕ
number_from v [] = cond (leb v most_word) v 0
number_from v (b ∷ t) = let more = number_from (10 * v + (b - 48)) t in cond (is_digit b) more 0

unfoldable pub number_of : List ℕ → ℕ
number_of t = number_from 0 t

-- the words of the longest load
abbrev pub most_load : ℕ
most_load = load_size most_classes most_terms

-- the bytes that are written for three arguments: those of the load's words, none where it is refused
unfoldable pub load_bytes : List ℕ → List ℕ → List ℕ → List ℕ
load_bytes seed classes terms = bytes_of (rehearse (number_of seed) (number_of classes) (number_of terms) most_load).words
