-- Laws of the sets in the work slice: none in words that are 0, and one member more.
use Prim.Native.Nat.{◌%◌, ◌*◌, ◌+◌, ◌-◌, ◌/◌, ◌<◌, ◌≤◌, suc, zero, ℕ}
use mathlib.Core.Bool.{Bool, ◌||◌, cond, false, true}
use mathlib.Core.List.{List, ◌++◌}
use mathlib.Core.Logic.{⊎_elim}
use mathlib.Core.Path.{◌∙◌, ◌≡◌, ap, refl, subst, sym}
use native.Mathlib.Omega.{arith}
use borrow.Author.Tests.{eqb-true}
use lib.Dec.{eqb}
use lib.ListN.{get_or-eq_default, drop, get_or, length, length-take, take}
use lib.Seq.{drop-drop}
use Rattle.frames.proofs.Frames.{only_none, only_put, row_word}
use Rattle.frames.proofs.Rows.{length_row, put_row}
use Rattle.frames.specs.Frames.{Only, Span}
use Rattle.frames.specs.Rows.{row_at}
use Rattle.meaning.specs.Records.{Name, is_name}
use Rattle.satisfaction.specs.Places.{put_in}
use Rattle.theory.proofs.Rules.{order}
use Rattle.words.proofs.Bits.{bit_none}
use Rattle.words.proofs.Laws.{in_including, length_including, named_within}
use Rattle.words.specs.Sets.{in_set, including, test_bit}

-- a set of words that are 0 has no member
pub none_in : (n : ℕ) (w : List ℕ) (at : ℕ) → ((i : ℕ) → at ≤ i → i < at + n → get_or w i 0 ≡ 0) → (d : ℕ) → in_set (row_at n w at) d ≡ false
unfolding in_set
none_in n w at z zero = refl
none_in n w at z (suc i) = ap (λ (x : ℕ). test_bit x (i % 32)) (⊎_elim within past (order (i / 32) n)) ∙ bit_none (i % 32)
  where
    within : i / 32 < n → get_or (row_at n w at) (i / 32) 0 ≡ 0
    within h = row_word n w at (i / 32) h ∙ z (at + i / 32) (omega arith) (omega arith)

    past : n ≤ i / 32 → get_or (row_at n w at) (i / 32) 0 ≡ 0
    past h = get_or-eq_default (row_at n w at) 0 (omega (arith, length-take n (drop at w)))

-- ---- one member more

module _ (n : ℕ) (w : List ℕ) (at x : ℕ) (fits : at + n ≤ length w) where
  set_size : length (including (row_at n w at) x) ≡ n
  set_size = length_including (row_at n w at) x ∙ length_row n w at fits

  room : at + length (including (row_at n w at) x) ≤ length w
  room = rw set_size fits

  pub put_part : {ys : List ℕ} → ys ≡ including (take ((at + n) - at) (drop at w)) x → take at w ++ (ys ++ drop ((at + n) - at) (drop at w)) ≡ put_in n w at x
  put_part e = let d : (at + n) - at ≡ n = omega arith in rw (e, d, set_size, drop-drop n at w)

  pub put_inside : {from to : ℕ} {w₀ w' : List ℕ} → from ≤ at → at + n ≤ to → w' ≡ put_in n w at x → Only (Span from to) w₀ w → Only (Span from to) w₀ w'
  put_inside {from} {to} {w₀} f g e o =
      subst (λ (l : List ℕ). Only (Span from to) w₀ l) (sym e)
      (only_put at (including (row_at n w at) x) room (λ i a b. record { low = omega arith; high = omega (arith, set_size) }) o)

  pub put_only : Only (Span at (at + n)) w (put_in n w at x)
  put_only = put_inside (omega arith) (omega arith) refl only_none

  pub put_size : {w' : List ℕ} → w' ≡ put_in n w at x → length w' ≡ length w
  put_size e = ap length e ∙ put_only.size

  pub put_in_lem : Name (32 * n) x → (d : ℕ) → in_set (row_at n (put_in n w at x) at) d ≡ eqb d x || in_set (row_at n w at) d
  put_in_lem h d = ap (λ (l : List ℕ). in_set l d) here ∙ in_including (row_at n w at) x d ∙ go (eqb d x) refl
    where
      here : row_at n (put_in n w at x) at ≡ including (row_at n w at) x
      here = ap (λ (k : ℕ). row_at k (put_in n w at x) at) (sym set_size) ∙ put_row w at (including (row_at n w at) x) room

      go : (b : Bool) → eqb d x ≡ b → cond b (is_name (32 * length (row_at n w at)) d) (in_set (row_at n w at) d) ≡ b || in_set (row_at n w at) d
      go true e = let z = eqb-true d x e in rw (length_row n w at fits) (named_within (32 * n) d (omega arith) (omega arith))
      go false e = refl
