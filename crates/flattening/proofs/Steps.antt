-- Words that stay, and the words put so far. Assumes nothing.
use Prim.Native.Nat.{◌%◌, ◌+◌, ◌<◌, ◌≤◌, ℕ}
use mathlib.Core.List.{List, ◌++◌, map}
use mathlib.Core.Path.{◌∙◌, ◌≡◌}
use lib.ListN.{drop, get_or, length, length-append, length-drop, set, take}
use lib.Seq.{take-suc-set}
use Rattle.std.proofs.lemmas.List.{take-append-le}
use native.Mathlib.Numerals.{add-one}
use native.Mathlib.Omega.{arith}
use borrow.Author.Tests.{le-leb, lt-leb, ne_eqb}
use Rattle.flattening.specs.Flat.{Flattens, flat_word_at, flat_words}
use Rattle.meaning.specs.Lists.{counting}
use Rattle.theory.proofs.Counting.{counted_more}

-- ---- words that stay: of the header, and none that is a second name

module _ (v : List ℕ) (i : ℕ) where
  pub word_early : i < 4 → get_or v i 0 ≡ flat_word_at v i
  unfolding flat_word_at
  word_early l = rw (lt-leb 4 i l)

  module _ (l : 4 ≤ i) where
    pub word_beside : (i % 4 ≡ 2 → ⊥) → get_or v i 0 ≡ flat_word_at v i
    unfolding flat_word_at
    word_beside n = rw (le-leb 4 i l, ne_eqb (i % 4) 2 n)

-- ---- `flatten`: the words put so far

pub words_more : (v w : List ℕ) (i : ℕ) → i < length w → take i w ≡ map (flat_word_at v) (counting 0 i) →
    take (i + 1) (set w i (flat_word_at v i)) ≡ map (flat_word_at v) (counting 0 (i + 1))
words_more v w i l e = rw (counted_more (flat_word_at v) i, add-one i, take-suc-set w i (flat_word_at v i) l, e)

pub words_all : (v w ws : List ℕ) → length ws ≡ length v → take (length v) ws ≡ map (flat_word_at v) (counting 0 (length v)) → length v ≤ length w →
    Flattens v w (ws ++ drop (length v) w)
unfolding flat_words
words_all v w ws n e h = record {
  words = take-append-le (length v) ws (drop (length v) w) (omega arith) ∙ e;
  size = simp (length-append, length-drop) (omega arith);
}
