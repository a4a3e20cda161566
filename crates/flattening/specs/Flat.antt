-- The words of a vocabulary in which every class that is below another is below itself instead.
use Rattle.std.specs.Prelude.{◌%◌, ◌-◌, ℕ, ◌&&◌, cond, List, map, ◌≡◌, eqb, leb, get_or, length, take}
use Rattle.meaning.specs.Lists.{counting}

-- word i: behind the header, in a record of kind 1, the second name is the first
unfoldable pub flat_word_at : List ℕ → ℕ → ℕ
flat_word_at v i = cond (leb 4 i && (eqb (i % 4) 2 && eqb (get_or v (i - 2) 0) 1)) (get_or v (i - 1) 0) (get_or v i 0)

unfoldable pub flat_words : List ℕ → List ℕ
flat_words v = map (flat_word_at v) (counting 0 (length v))

-- they stand in front of a slice
pub record Flattens (v w w' : List ℕ) : Type 0 where
  pub words : take (length v) w' ≡ flat_words v
  pub size : length w' ≡ length w
