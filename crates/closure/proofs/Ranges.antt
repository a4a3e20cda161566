-- The rows of the roles: each has what is above a range of its role, and the rows of the classes stay. Assumes nothing.
use Prim.Native.Nat.{◌*◌, ◌≤◌, ℕ}
use mathlib.Core.Bool.{Bool, ◌||◌, cond, false, or_assoc, or-false, true}
use mathlib.Core.List.{List, [], ◌∷◌, foldl}
use mathlib.Core.Path.{◌∙◌, ◌≡◌, ap, refl, subst, sym}
use lib.Dec.{eqb}
use lib.ListN.{length}
use native.Mathlib.Omega.{arith}
use borrow.Author.Tests.{eqb-false, eqb-true}
use Rattle.closure.proofs.Rows.{Fits, fill_rows_only, fill_rows_row, joined_in, joined_only, joined_other}
use Rattle.closure.specs.Rows.{ClosedRows, RangeRows, Ranged, RolePlaces, emptied, empty, extend, is_ranged, joined, row_of, widened}
use Rattle.frames.proofs.Frames.{only_span, only_then, row_before}
use Rattle.frames.specs.Frames.{Only, Span}
use Rattle.layout.specs.Places.{role_row, row_place}
use Rattle.meaning.specs.Limits.{most_classes}
use Rattle.meaning.specs.Lists.{All, any}
use Rattle.meaning.specs.Records.{Name}
use Rattle.meaning.specs.Stated.{is_below, range_pair, range_pairs, ranges, ranges_in}
use Rattle.meaning.specs.Vocabulary.{class_count, role_count, vocabulary_of, vocabulary_refusal}
use Rattle.theory.proofs.Bounds.{range_pairs_named}
use Rattle.theory.proofs.Rules.{head, tail}
use Rattle.theory.proofs.Wellformed.{accepted_counts}
use Rattle.vocabulary.proofs.Chain.{foldl_flat_map}
use Rattle.words.proofs.Laws.{in_zeros}
use Rattle.words.specs.Rows.{class_words}
use Rattle.words.specs.Sets.{in_set}

-- ---- what writes after the rows keeps them

pub closed_kept : (v w u : List ℕ) {from to : ℕ} → Only (Span from to) w u → class_count v * class_words ≤ from → ClosedRows v w → ClosedRows v u
closed_kept v w u o l h = record {
  fits = rw o.size h.fits;
  rows = λ a b n. ap (λ (s : List ℕ). in_set s b) (row_before o class_words (row_place a) (omega (arith, n.0, n.1))) ∙ h.rows a b n;
}

pub ranged_kept : (v w u : List ℕ) {from to : ℕ} → Only (Span from to) w u → role_row (role_count v) * class_words ≤ from → RangeRows v w → RangeRows v u
ranged_kept v w u o l h = record {
  fits = rw o.size h.fits;
  rows = λ r b n. ap (λ (s : List ℕ). in_set s b) (row_before o class_words (row_place (role_row r)) (omega (arith, n.1))) ∙ h.rows r b n;
}

module _ (v w₀ : List ℕ) (r : vocabulary_refusal v ≡ 0) (closed : ClosedRows v w₀) (fits : role_row (role_count v) * class_words ≤ length w₀) where
  -- ---- the rows at first

  starts_only : {w : List ℕ} → w ≡ emptied (role_count v) w₀ → Only (RolePlaces v) w₀ w
  starts_only e = rw e (fill_rows_only most_classes (λ q. empty) (λ q. refl) w₀ (role_count v) fits)

  starts_empty : (q b : ℕ) → Name (role_count v) q → in_set (row_of (emptied (role_count v) w₀) (role_row q)) b ≡ false
  starts_empty q b n =
      ap (λ (s : List ℕ). in_set s b) (fill_rows_row most_classes (λ q. empty) (λ q. refl) w₀ (role_count v) fits q n) ∙ in_zeros class_words b

  -- ---- one record

  module _ {w : List ℕ} (h : Only (RolePlaces v) w₀ w) where
    role_fits : (q : ℕ) → Name (role_count v) q → Fits w (role_row q)
    role_fits q n = (omega arith, omega (arith, h.size, n.1))

    class_fits : (c : ℕ) → Name (class_count v) c → Fits w c
    class_fits c n = (n.0, omega (arith, h.size, n.1, (accepted_counts v r).0.1))

    still_closed : ClosedRows v w
    still_closed = let most = (accepted_counts v r).0.1 in closed_kept v w₀ w h (omega arith) closed

    only_joined : (q c : ℕ) → Name (role_count v) q → Name (class_count v) c → Only (RolePlaces v) w₀ (joined w (role_row q) c)
    only_joined q c n m =
        only_then h (only_span (joined_only w (role_row q) c (role_fits q n) (class_fits c m)) (omega (arith, n.0)) (omega (arith, n.1)))

    -- the row of role q, after a pair
    extend_in : (x : ℕ × ℕ) → Name (role_count v) x.0 × Name (class_count v) x.1 → (q b : ℕ) → Name (role_count v) q →
        in_set (row_of (extend w x) (role_row q)) b ≡ in_set (row_of w (role_row q)) b || any (λ c. is_below (vocabulary_of v) c b) (ranges_in (x ∷ []) q)
    extend_in (p, c) n q b m = go (eqb q p) refl
      where
        above : in_set (row_of w c) b ≡ is_below (vocabulary_of v) c b
        above = still_closed.rows c b n.1

        own : in_set (row_of (joined w (role_row p) c) (role_row p)) b ≡ in_set (row_of w (role_row p)) b || (is_below (vocabulary_of v) c b || false)
        own =
            joined_in w (role_row p) c (role_fits p n.0) (class_fits c n.1) b
            ∙ ap (λ (t : Bool). in_set (row_of w (role_row p)) b || t) (above ∙ sym (or-false (is_below (vocabulary_of v) c b)))

        go : (t : Bool) → eqb q p ≡ t →
            in_set (row_of (joined w (role_row p) c) (role_row q)) b ≡ in_set (row_of w (role_row q)) b || any (λ d. is_below (vocabulary_of v) d b) (cond t (c ∷ []) [])
        go true e =
            subst (λ (i : ℕ). in_set (row_of (joined w (role_row p) c) (role_row i)) b ≡ in_set (row_of w (role_row i)) b || (is_below (vocabulary_of v) c b || false)) (sym (eqb-true q p e)) own
        go false e =
            let other = eqb-false q p e in
            ap (λ (s : List ℕ). in_set s b) (joined_other w (role_row p) c (role_fits p n.0) (class_fits c n.1) (role_row q) (omega arith) (λ z. other (omega arith)))
            ∙ sym (or-false (in_set (row_of w (role_row q)) b))

  -- ---- all of them

  -- a role and a class, by name
  abbrev Named : ℕ × ℕ → Type 0
  Named x = Name (role_count v) x.0 × Name (class_count v) x.1

  ranges_more : (p : ℕ → Bool) (x : ℕ × ℕ) (R : List (ℕ × ℕ)) (q : ℕ) → any p (ranges_in (x ∷ []) q) || any p (ranges_in R q) ≡ any p (ranges_in (x ∷ R) q)
  ranges_more p (s, c) R q = go (eqb q s)
    where
      go : (t : Bool) → any p (cond t (c ∷ []) []) || any p (ranges_in R q) ≡ any p (cond t (c ∷ ranges_in R q) (ranges_in R q))
      go true = ap (λ (u : Bool). u || any p (ranges_in R q)) (or-false (p c))
      go false = refl

  only_all : {w : List ℕ} → Only (RolePlaces v) w₀ w → (R : List (ℕ × ℕ)) → All Named R → Only (RolePlaces v) w₀ (foldl extend w R)
  only_all h [] n = h
  only_all {w = w} h (x ∷ R) n = only_all {w = extend w x} (only_joined h x.0 x.1 (head n).0 (head n).1) R (tail n)

  extend_all : {w : List ℕ} → Only (RolePlaces v) w₀ w → (R : List (ℕ × ℕ)) → All Named R → (q b : ℕ) → Name (role_count v) q →
      in_set (row_of (foldl extend w R) (role_row q)) b ≡ in_set (row_of w (role_row q)) b || any (λ c. is_below (vocabulary_of v) c b) (ranges_in R q)
  extend_all {w} h [] n q b m = sym (or-false (in_set (row_of w (role_row q)) b))
  extend_all {w} h (x ∷ R) n q b m =
      let p : ℕ → Bool = λ c. is_below (vocabulary_of v) c b in
      let old = in_set (row_of w (role_row q)) b in
      extend_all {w = extend w x} (only_joined h x.0 x.1 (head n).0 (head n).1) R (tail n) q b m
      ∙ ap (λ (t : Bool). t || any p (ranges_in R q)) (extend_in h x (head n) q b m)
      ∙ or_assoc old (any p (ranges_in (x ∷ []) q)) (any p (ranges_in R q))
      ∙ ap (λ (t : Bool). old || t) (ranges_more p x R q)

  -- the walk goes pair by pair
  pairwise : (u : List ℕ) → foldl widened u (vocabulary_of v).axioms ≡ foldl extend u (range_pairs (vocabulary_of v))
  unfolding range_pairs
  pairwise u = foldl_flat_map extend range_pair u (vocabulary_of v).axioms

  -- `close_ranges`, where u has the rows emptied and w is the end
  pub ranged_all : {u w : List ℕ} → u ≡ emptied (role_count v) w₀ → w ≡ foldl widened u (vocabulary_of v).axioms → Ranged v w₀ w
  unfolding ranges
  ranged_all {u} {w} e d =
      let start = starts_only e in
      let all : w ≡ foldl extend u (range_pairs (vocabulary_of v)) = d ∙ pairwise u in
      let only : Only (RolePlaces v) w₀ w = subst (Only (RolePlaces v) w₀) (sym all) (only_all start (range_pairs (vocabulary_of v)) (range_pairs_named v r)) in
      record {
        only = only;
        closed = still_closed only;
        ranged = record {
          fits = omega (arith, only.size);
          rows = λ q b n.
              let none : in_set (row_of u (role_row q)) b ≡ false = ap (λ (l : List ℕ). in_set (row_of l (role_row q)) b) e ∙ starts_empty q b n in
              ap (λ (l : List ℕ). in_set (row_of l (role_row q)) b) all
              ∙ extend_all start (range_pairs (vocabulary_of v)) (range_pairs_named v r) q b n
              ∙ ap (λ (t : Bool). t || is_ranged (vocabulary_of v) q b) none;
        };
      }
