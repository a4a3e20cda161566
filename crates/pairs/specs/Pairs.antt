-- The pairs of disjoint classes, as a list of the work slice after the rows: their number, then two words a pair.
use Rattle.std.specs.Prelude.{◌+◌, ◌<◌, ◌≤◌, ℕ, Bool, ◌&&◌, not, ◌≡◌, get_or, length, set}
use mathlib.Core.List.{List, foldl, map}
use Rattle.frames.specs.Frames.{Only, Span}
use Rattle.layout.specs.Places.{most_pairs, pair_place, pairs_at, pairs_end}
use Rattle.meaning.specs.Lists.{all, counting}
use Rattle.meaning.specs.Stated.{disjoint_pair, disjoint_pairs}
use Rattle.meaning.specs.Vocabulary.{Axiom, vocabulary_of}
use Rattle.words.specs.Sets.{in_set}

abbrev pub pair_count : List ℕ → ℕ
pair_count w = get_or w pairs_at 0

-- what pair i stands for
abbrev pub pair_at : List ℕ → ℕ → ℕ × ℕ
pair_at w i = (get_or w (pair_place i) 0, get_or w (pair_place i + 1) 0)

abbrev pub pairs_in : List ℕ → List (ℕ × ℕ)
pairs_in w = map (pair_at w) (counting 0 (pair_count w))

-- ---- what the list holds

-- the list in w is that of v, in the chain's order
pub record PairRows (v w : List ℕ) : Type 0 where
  pub few : pair_count w ≤ most_pairs
  pub rows : pairs_in w ≡ disjoint_pairs (vocabulary_of v)

-- w' is w but for the list
pub record Listed (v w w' : List ℕ) : Type 0 where
  pub only : Only (Span pairs_at pairs_end) w w'
  pub listed : PairRows v w'

-- there is room for one pair more
abbrev pub PairRoom : List ℕ → Type 0
PairRoom w = (pair_count w < most_pairs) × (pairs_end ≤ length w)

-- ---- how it comes about

unfoldable pub with_pair : List ℕ → ℕ → ℕ → List ℕ
with_pair w a b = set (set (set w (pair_place (pair_count w)) a) (pair_place (pair_count w) + 1) b) pairs_at (pair_count w + 1)

-- what a record states, where it makes two classes disjoint
abbrev pub enlisted : List ℕ → Axiom → List ℕ
enlisted w x = foldl (λ u p. with_pair u p.0 p.1) w (disjoint_pair x)

-- ---- what is asked of it

-- both classes of the pair are in the set
abbrev pub has_both : List ℕ → ℕ × ℕ → Bool
has_both ws p = in_set ws p.0 && in_set ws p.1

-- the set has both classes of no pair of the list in w
unfoldable pub agree_in : List ℕ → List ℕ → Bool
agree_in w ws = all (λ i. not (has_both ws (pair_at w i))) (counting 0 (pair_count w))
