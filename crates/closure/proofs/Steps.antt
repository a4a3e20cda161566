-- One law for each return of the functions, over plain lists and numbers. Assumes nothing.
use Prim.Native.Nat.{◌*◌, ◌+◌, ◌<◌, ◌≤◌, ℕ}
use lib.ListN.{length}
use mathlib.Core.Bool.{Bool, false, true, true≢false}
use mathlib.Core.List.{List, foldl}
use mathlib.Core.Logic.{◌↔◌}
use mathlib.Core.Path.{◌∙◌, ◌≡◌, ap, refl, subst, sym}
use native.Mathlib.Numerals.{add-one}
use native.Mathlib.Omega.{arith}
use Rattle.closure.proofs.Rows.{Fits, fill_rows_only, joined_only, joined_more, joined_still}
use Rattle.closure.specs.Rows.{Grown, emptied, empty, extend, fill_rows, joined, lift, lifted, row_of, widened}
use Rattle.frames.specs.Rows.{put_at}
use Rattle.layout.specs.Places.{role_row, row_place}
use Rattle.meaning.specs.Accepted.{AxiomOf}
use Rattle.meaning.specs.Limits.{most_classes}
use Rattle.meaning.specs.Lists.{All, cons, nil}
use Rattle.meaning.specs.Records.{Name}
use Rattle.meaning.specs.Vocabulary.{Axiom, class_count, role_count}
use Rattle.theory.proofs.Stated.{range_pair_named, subclass_named}
use Rattle.words.specs.Rows.{class_words}
use Rattle.words.specs.Sets.{union_of, word_sum}

-- `begin` and `empty_ranges`
pub fill_rows_none : (first : ℕ) (f : ℕ → List ℕ) (w : List ℕ) → w ≡ fill_rows first f 0 w
unfolding fill_rows
fill_rows_none first f w = refl

pub fill_rows_more : (first : ℕ) (f : ℕ → List ℕ) (w₀ : List ℕ) {w u s : List ℕ} {at : ℕ} (i : ℕ) → w ≡ fill_rows first f i w₀ → s ≡ f (i + 1) →
    at ≡ row_place (first + (i + 1)) → u ≡ put_at w at s → u ≡ fill_rows first f (i + 1) w₀
unfolding fill_rows
fill_rows_more first f w₀ i e s a p = p ∙ rw (a, s, e, add-one i)

-- `join`
module _ (w : List ℕ) (i j : ℕ) (f : Fits w i) (g : Fits w j) {lower upper : List ℕ} {r : Bool} (p : lower ≡ row_of w i) (q : upper ≡ row_of w j)
    (c : (r ≡ true) ↔ (union_of lower upper ≡ lower)) where
  pub join_still : r ≡ true → w ≡ joined w i j
  join_still e = sym (joined_still w i j f g (rw (p, q) at (c.0 e)))

  pub join_grows : {s u : List ℕ} {at : ℕ} → r ≡ false → s ≡ union_of lower upper → at ≡ row_place i → u ≡ put_at w at s →
      (u ≡ joined w i j) × (word_sum w < word_sum u)
  unfolding joined
  join_grows {u = u} e d a h =
      let all : u ≡ joined w i j = h ∙ rw (a, d, p, q) in
      (all, rw all (joined_more w i j f g (λ z. true≢false (sym (c.1 (rw (p, q) z)) ∙ e))))

-- `close_ranges`
pub widened_length : (v w : List ℕ) (x : Axiom) → AxiomOf v x → class_count v ≤ most_classes → role_row (role_count v) * class_words ≤ length w →
    length (widened w x) ≡ length w
widened_length v w x n m f = go w (range_pair_named v x n) refl
  where
    go : (u : List ℕ) {l : List (ℕ × ℕ)} → All (λ p. Name (role_count v) p.0 × Name (class_count v) p.1) l → length u ≡ length w →
        length (foldl extend u l) ≡ length w
    go u nil e = e
    go u (cons {x = p} h t) e =
        go (extend u p) t ((joined_only u (role_row p.0) p.1 (omega arith, omega (arith, h.0.1)) (h.1.0, omega (arith, h.1.1))).size ∙ e)

module _ (v w₀ u : List ℕ) {n : ℕ} (f : role_row (role_count v) * class_words ≤ length w₀) (e : n ≡ role_count v) (b : u ≡ emptied n w₀) where
  pub empties : u ≡ emptied (role_count v) w₀
  empties = b ∙ ap (λ (i : ℕ). emptied i w₀) e

  pub empties_length : length u ≡ length w₀
  empties_length = ap length empties ∙ (fill_rows_only most_classes (λ r. empty) (λ r. refl) w₀ (role_count v) f).size

-- `pass`
pub lifted_length : (v w : List ℕ) (x : Axiom) → AxiomOf v x → class_count v * class_words ≤ length w → length (lifted w x) ≡ length w
lifted_length v w x n f = go w (subclass_named v x n) refl
  where
    go : (u : List ℕ) {l : List (ℕ × ℕ)} → All (λ p. Name (class_count v) p.0 × Name (class_count v) p.1) l → length u ≡ length w →
        length (foldl lift u l) ≡ length w
    go u nil e = e
    go u (cons {x = p} h t) e =
        go (lift u p) t ((joined_only u p.0 p.1 (h.0.0, omega (arith, h.0.1)) (h.1.0, omega (arith, h.1.1))).size ∙ e)

grown_le : (g : Bool) (w u : List ℕ) → Grown g w u → word_sum w ≤ word_sum u
grown_le true w u h = omega arith
grown_le false w u h = rw h (omega arith)

-- whether anything grew so far, g, and at one record, d: the flag after it
module _ (g d : Bool) {f : Bool} (w u t : List ℕ) (p : Grown g w u) (q : Grown d u t) where
  pub grown_more : d ≡ true → f ≡ true → Grown f w t
  grown_more e z = let more : Grown true u t = subst (λ (b : Bool). Grown b u t) e q in rw z (omega (arith, grown_le g w u p))

  pub grown_still : d ≡ false → f ≡ g → Grown f w t
  grown_still e z =
      let still : Grown false u t = subst (λ (b : Bool). Grown b u t) e q in
      rw z (subst (λ (l : List ℕ). Grown g w l) (sym still) p)
