-- A union never lowers the words' sum, and leaves it only where it adds nothing: what a search that only adds ends by. Assumes nothing.
use Prim.Native.Nat.{◌*◌, ◌+◌, ◌/◌, ◌<◌, ◌≤◌, suc, zero, ℕ}
use lib.Bits.{bit_or, or_step}
use lib.Dec.{T, eqb}
use lib.ListN.{drop, get_or, length, take, take-append-drop}
use lib.Seq.{drop-drop, ext_get_or}
use mathlib.Core.Bool.{Bool, ◌&&◌, true}
use mathlib.Core.List.{List, [], ◌++◌, ◌∷◌}
use mathlib.Core.Logic.{◌↔◌}
use mathlib.Core.Path.{◌∙◌, ◌≡◌, ap, ap₂, refl, subst, sym}
use borrow.Author.Count.{below_more}
use borrow.Author.Tests.{eq-eqb}
use native.Mathlib.Nat.{suc-mul}
use native.Mathlib.Omega.{arith}
use Rattle.frames.specs.Rows.{put_at, row_at}
use Rattle.theory.proofs.Links.{tests}
use Rattle.theory.proofs.Rules.{or_right}
use Rattle.words.proofs.Laws.{in_union, length_union, union_at}
use Rattle.words.specs.Sets.{in_set, union_of, word_sum}

or_grows : (d a b : ℕ) → a ≤ d → a ≤ bit_or a b
or_grows zero a b h = omega arith
or_grows (suc d) zero b h = omega arith
or_grows (suc d) (suc a) b h = rw (or_step (suc a) b) (let k = or_grows d (suc a / 2) (b / 2) (omega arith) in omega arith)

pub union_grows : (ws vs : List ℕ) → word_sum ws ≤ word_sum (union_of ws vs)
unfolding union_of word_sum
union_grows [] vs = omega arith
union_grows (w ∷ ws) [] = omega arith
union_grows (w ∷ ws) (v ∷ vs) = let here = or_grows w w v (omega arith) in omega (arith, union_grows ws vs)

pub union_same : (ws vs : List ℕ) → word_sum (union_of ws vs) ≤ word_sum ws → union_of ws vs ≡ ws
unfolding union_of word_sum
union_same [] vs h = refl
union_same (w ∷ ws) [] h = refl
union_same (w ∷ ws) (v ∷ vs) h =
    let here = or_grows w w v (omega arith) in
    let later = union_grows ws vs in
    let word : bit_or w v ≡ w = omega arith in
    ap₂ (λ (x : ℕ) (l : List ℕ). x ∷ l) word (union_same ws vs (omega arith))

-- a union that adds nothing
pub covered : (ws vs : List ℕ) → length vs ≤ length ws → union_of ws vs ≡ ws → (d : ℕ) → T (in_set vs d) → T (in_set ws d)
covered ws vs l e d t =
    subst T (sym (in_union ws vs l d) ∙ ap (λ (s : List ℕ). in_set s d) e) (or_right (in_set ws d) (in_set vs d) t)

-- ---- in a longer row

sum_append : (ws vs : List ℕ) → word_sum (ws ++ vs) ≡ word_sum ws + word_sum vs
unfolding word_sum
sum_append [] vs = omega arith
sum_append (w ∷ ws) vs = omega (arith, sum_append ws vs)

pub sum_put : (ws : List ℕ) (at : ℕ) (vs : List ℕ) → word_sum (put_at ws at vs) + word_sum (row_at (length vs) ws at) ≡ word_sum ws + word_sum vs
sum_put ws at vs =
    let row = row_at (length vs) ws at in
    let rest = drop (at + length vs) ws in
    let parts : drop at ws ≡ row ++ rest = sym (take-append-drop (length vs) (drop at ws)) ∙ ap (λ (l : List ℕ). row ++ l) (drop-drop (length vs) at ws) in
    let whole : word_sum ws ≡ word_sum (take at ws) + (word_sum row + word_sum rest) =
    ap word_sum (sym (take-append-drop at ws)) ∙ sum_append (take at ws) (drop at ws)
    ∙ ap (λ (n : ℕ). word_sum (take at ws) + n) (ap word_sum parts ∙ sum_append row rest) in
    let new = sum_append (take at ws) (vs ++ rest) in
    omega (arith, sum_append vs rest)

-- the sum of so many words
pub sum_most : (ws : List ℕ) (b : ℕ) → ((k : ℕ) → get_or ws k 0 < b) → word_sum ws ≤ length ws * b
unfolding word_sum
sum_most [] b h = omega arith
sum_most (w ∷ ws) b h = let first : w < b = h 0 in omega (arith, sum_most ws b (λ k. h (suc k)), suc-mul (length ws) b)

-- ---- `covers`: the union changes no word

-- none of the first i
abbrev pub KeptTo : List ℕ → List ℕ → ℕ → Type 0
KeptTo ws vs i = (j : ℕ) → j < i → bit_or (get_or ws j 0) (get_or vs j 0) ≡ get_or ws j 0

module _ (ws vs : List ℕ) where
  pub covers_none : (true ≡ true) ↔ KeptTo ws vs 0
  covers_none = (λ _ j h. absurd (omega arith), λ _. refl)

  pub covers_more : (b : Bool) (i : ℕ) → (b ≡ true) ↔ KeptTo ws vs i →
      (b && eqb (bit_or (get_or ws i 0) (get_or vs i 0)) (get_or ws i 0) ≡ true) ↔ KeptTo ws vs (i + 1)
  covers_more b i r = (
    λ e. let u = simp tests at e in below_more _ _ (r.0 u.0) u.1,
    λ h. rw (r.1 (λ j l. h j (omega arith))) (eq-eqb _ _ (h i (omega arith))),
  )

  pub covers_all : length vs ≤ length ws → (b : Bool) (i : ℕ) → length ws ≤ i → (b ≡ true) ↔ KeptTo ws vs i → (b ≡ true) ↔ (union_of ws vs ≡ ws)
  covers_all l b i m r = (
    λ e. ext_get_or 0 (union_of ws vs) ws (length_union ws vs) (λ j q. union_at ws vs l j ∙ r.0 e j (omega (arith, length_union ws vs))),
    λ e. r.1 (λ j q. sym (union_at ws vs l j) ∙ ap (λ (s : List ℕ). get_or s j 0) e),
  )
