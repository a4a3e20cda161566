-- Rows of the work slice: one that is put, those beside it, and one that takes in another. Assumes nothing.
use Prim.Native.Nat.{◌*◌, ◌+◌, ◌<◌, ◌≤◌, suc, zero, ℕ}
use mathlib.Core.Bool.{Bool, ◌||◌, false, true}
use mathlib.Core.List.{List}
use mathlib.Core.Logic.{⊎_elim}
use mathlib.Core.Path.{◌∙◌, ◌≡◌, ap, refl, subst, sym}
use lib.Dec.{eqb}
use lib.ListN.{length}
use native.Mathlib.Omega.{arith}
use borrow.Author.Tests.{eqb-false, eqb-true}
use Rattle.closure.specs.Rows.{fill_rows, joined, row_of, with_row}
use Rattle.frames.proofs.Frames.{only_none, only_put, only_span, only_then, row_before, row_behind}
use Rattle.frames.proofs.Rows.{length_put, length_row, put_row, put_self}
use Rattle.frames.specs.Frames.{Only, Span}
use Rattle.frames.specs.Rows.{row_at}
use Rattle.layout.specs.Places.{row_place}
use Rattle.meaning.specs.Records.{Name}
use Rattle.theory.proofs.Rules.{order}
use Rattle.words.proofs.Growth.{sum_put, union_grows, union_same}
use Rattle.words.proofs.Laws.{in_union, length_union}
use Rattle.words.specs.Rows.{class_words}
use Rattle.words.specs.Sets.{in_set, union_of, word_sum}

-- row i is in the slice
abbrev pub Fits : List ℕ → ℕ → Type 0
Fits w i = (1 ≤ i) × (i * class_words ≤ length w)

module _ (w : List ℕ) (i : ℕ) (f : Fits w i) where
  pub row_length : length (row_of w i) ≡ class_words
  row_length = length_row class_words w (row_place i) (omega arith)

  module _ (s : List ℕ) (l : length s ≡ class_words) where
    pub with_length : length (with_row w i s) ≡ length w
    with_length = length_put w (row_place i) s (omega arith)

    pub with_same : row_of (with_row w i s) i ≡ s
    with_same = ap (λ (n : ℕ). row_at n (with_row w i s) (row_place i)) (sym l) ∙ put_row w (row_place i) s (omega arith)

    pub with_only : Only (Span (row_place i) (i * class_words)) w (with_row w i s)
    with_only = only_put (row_place i) s (omega arith) (λ k a b. record { low = a; high = omega arith }) only_none

    pub with_other : (j : ℕ) → 1 ≤ j → (i ≡ j → ⊥) → row_of (with_row w i s) j ≡ row_of w j
    with_other j p n =
        ⊎_elim (λ h. row_behind with_only class_words (row_place j) (omega arith)) (λ h. row_before with_only class_words (row_place j) (omega arith)) (order i j)

-- ---- rows that are filled one after another

module _ (first : ℕ) (f : ℕ → List ℕ) (whole : (c : ℕ) → length (f c) ≡ class_words) where
  module _ (w : List ℕ) where
    pub fill_rows_only : (n : ℕ) → (first + n) * class_words ≤ length w → Only (Span (first * class_words) ((first + n) * class_words)) w (fill_rows first f n w)
    unfolding fill_rows
    fill_rows_only zero h = only_none
    fill_rows_only (suc n) h =
        let o = fill_rows_only n (omega arith) in
        only_then (only_span o (omega arith) (omega arith))
        (only_span (with_only (fill_rows first f n w) (first + suc n) (omega arith, omega (arith, o.size)) (f (suc n)) (whole (suc n))) (omega arith) (omega arith))

    next_fits : (n : ℕ) → (first + suc n) * class_words ≤ length w → Fits (fill_rows first f n w) (first + suc n)
    next_fits n h = (omega arith, omega (arith, (fill_rows_only n (omega arith)).size))

    pub fill_rows_row : (n : ℕ) → (first + n) * class_words ≤ length w → (c : ℕ) → Name n c → row_of (fill_rows first f n w) (first + c) ≡ f c
    unfolding fill_rows
    fill_rows_row zero h c m = absurd (omega arith)
    fill_rows_row (suc n) h c m = go (eqb (suc n) c) refl (λ l. fill_rows_row n (omega arith) c (m.0, l))
      where
        go : (b : Bool) → eqb (suc n) c ≡ b → (c ≤ n → row_of (fill_rows first f n w) (first + c) ≡ f c) → row_of (fill_rows first f (suc n) w) (first + c) ≡ f c
        go true e before =
            subst (λ (i : ℕ). row_of (fill_rows first f (suc n) w) (first + i) ≡ f i) (eqb-true (suc n) c e)
            (with_same (fill_rows first f n w) (first + suc n) (next_fits n h) (f (suc n)) (whole (suc n)))
        go false e before =
            let other = eqb-false (suc n) c e in
            with_other (fill_rows first f n w) (first + suc n) (next_fits n h) (f (suc n)) (whole (suc n)) (first + c) (omega (arith, m.0)) (λ z. other (omega arith))
            ∙ before (omega arith)

-- ---- a row that takes in another

module _ (w : List ℕ) (i j : ℕ) (f : Fits w i) (g : Fits w j) where
  both_length : length (union_of (row_of w i) (row_of w j)) ≡ class_words
  both_length = length_union (row_of w i) (row_of w j) ∙ row_length w i f

  pub joined_only : Only (Span (row_place i) (i * class_words)) w (joined w i j)
  unfolding joined
  joined_only = with_only w i f (union_of (row_of w i) (row_of w j)) both_length

  pub joined_in : (d : ℕ) → in_set (row_of (joined w i j) i) d ≡ in_set (row_of w i) d || in_set (row_of w j) d
  unfolding joined
  joined_in d =
      ap (λ (l : List ℕ). in_set l d) (with_same w i f (union_of (row_of w i) (row_of w j)) both_length)
      ∙ in_union (row_of w i) (row_of w j) (omega (arith, row_length w i f, row_length w j g)) d

  pub joined_other : (k : ℕ) → 1 ≤ k → (i ≡ k → ⊥) → row_of (joined w i j) k ≡ row_of w k
  unfolding joined
  joined_other k p n = with_other w i f (union_of (row_of w i) (row_of w j)) both_length k p n

  -- the words' sum: by as much as the row's
  sums : word_sum (joined w i j) + word_sum (row_of w i) ≡ word_sum w + word_sum (union_of (row_of w i) (row_of w j))
  unfolding joined
  sums =
      ap (λ (n : ℕ). word_sum (joined w i j) + word_sum (row_at n w (row_place i))) (sym both_length)
      ∙ sum_put w (row_place i) (union_of (row_of w i) (row_of w j))

  pub joined_grows : word_sum w ≤ word_sum (joined w i j)
  joined_grows = omega (arith, sums, union_grows (row_of w i) (row_of w j))

  pub joined_more : (union_of (row_of w i) (row_of w j) ≡ row_of w i → ⊥) → word_sum w < word_sum (joined w i j)
  joined_more n =
      ⊎_elim (λ h. h) (λ h. absurd (n (union_same (row_of w i) (row_of w j) (omega (arith, sums))))) (order (word_sum w) (word_sum (joined w i j)))

  pub joined_still : union_of (row_of w i) (row_of w j) ≡ row_of w i → joined w i j ≡ w
  unfolding joined
  joined_still e = ap (with_row w i) e ∙ put_self class_words w (row_place i) (omega arith)

  -- where the sum did not grow
  pub joined_shut : word_sum (joined w i j) ≤ word_sum w → union_of (row_of w i) (row_of w j) ≡ row_of w i
  joined_shut h = union_same (row_of w i) (row_of w j) (omega (arith, sums))
