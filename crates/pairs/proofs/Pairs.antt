-- The list of disjoint pairs: one record more, and all of them. Assumes nothing.
use Prim.Native.Nat.{◌+◌, ◌<◌, ◌≤◌, suc, zero, ℕ}
use mathlib.Core.Bool.{Bool, ◌&&◌, false, true}
use mathlib.Core.List.{List, [], ◌++◌, ◌∷◌, append_assoc, append-nil, foldl, map}
use mathlib.Core.Logic.{◌⊎◌, inl, inr, ⊎_elim}
use mathlib.Core.Path.{◌∙◌, ◌≡◌, ap, ap₂, refl, sym}
use lib.ListN.{get_or, length, length-set, set}
use lib.Seq.{get_or-set_other, get_or-set_same}
use native.Mathlib.Numerals.{add-one}
use native.Mathlib.Omega.{arith}
use Rattle.frames.proofs.Frames.{only_before, only_none, only_set, only_then, only_wider}
use Rattle.frames.specs.Frames.{Only, Span}
use Rattle.layout.specs.Places.{most_pairs, pair_place, pairs_at, pairs_end}
use Rattle.meaning.specs.Lists.{all, counting, flat_map}
use Rattle.meaning.specs.Records.{falling, last_of}
use Rattle.meaning.specs.Stated.{disjoint_pair, disjoint_pairs}
use Rattle.meaning.specs.Vocabulary.{Axiom, axiom_at, axiom_next, first_axiom, vocabulary_of}
use Rattle.meaning.specs.Vocabulary.{vocabulary_refusal}
use Rattle.pairs.specs.Pairs.{Listed, PairRoom, PairRows, enlisted, has_both, pair_at, pair_count, pairs_in, with_pair}
use Rattle.std.specs.List.{list_all, range_with_len}
use Rattle.theory.proofs.Counting.{counted_more, counted_same}
use Rattle.theory.proofs.Links.{falling_le}
use Rattle.theory.proofs.Wellformed.{accepted_size}
use Rattle.theory.proofs.Stated.{disjoint_pair_one}
use Rattle.vocabulary.proofs.Chain.{Folding, folding_ends, folding_falls, folding_on, folding_starts}
use Rattle.words.specs.Sets.{in_set}

-- ---- pairs that stand

-- what writes after the list keeps it
pub pairs_kept : {v w u : List ℕ} {from to : ℕ} → Only (Span from to) w u → pairs_end ≤ from → PairRows v w → PairRows v u
pairs_kept {w = w} {u = u} o e h =
    let same : (i : ℕ) → i < pairs_end → get_or u i 0 ≡ get_or w i 0 = λ i l. only_before o i (omega arith) in
    let n : pair_count u ≡ pair_count w = same pairs_at (omega arith) in
    let few = h.few in
    record {
      few = omega arith;
      rows = ap (λ (m : ℕ). map (pair_at u) (counting 0 m)) n
          ∙ counted_same (pair_at u) (pair_at w) 0 (pair_count w) (λ i l. ap₂ (λ (x y : ℕ). (x, y)) (same (pair_place i) (omega arith)) (same (pair_place i + 1) (omega arith))) ∙ h.rows;
    }

-- ---- one pair more

module _ (w : List ℕ) (a b : ℕ) where
  -- `add_pair`, where the pair starts at `at`
  pub with_words : {at : ℕ} → at ≡ pair_place (pair_count w) → set (set (set w at a) (at + 1) b) pairs_at (pair_count w + 1) ≡ with_pair w a b
  unfolding with_pair
  with_words e = rw e

  pub with_length : length (with_pair w a b) ≡ length w
  unfolding with_pair
  with_length = simp length-set

  module _ (room : PairRoom w) where
    with_only : Only (λ i. (i ≡ pair_place (pair_count w)) ⊎ ((i ≡ pair_place (pair_count w) + 1) ⊎ (i ≡ pairs_at))) w (with_pair w a b)
    unfolding with_pair
    with_only = only_set pairs_at (pair_count w + 1) (inr (inr refl)) (only_set (pair_place (pair_count w) + 1) b (inr (inl refl)) (only_set (pair_place (pair_count w)) a (inl refl) only_none))

    with_count : pair_count (with_pair w a b) ≡ pair_count w + 1
    unfolding with_pair
    with_count =
        get_or-set_same (set (set w (pair_place (pair_count w)) a) (pair_place (pair_count w) + 1) b) pairs_at (pair_count w + 1) 0 (rw (length-set, length-set) (omega arith))

    with_last : pair_at (with_pair w a b) (pair_count w) ≡ (a, b)
    unfolding with_pair
    with_last =
        let u = set w (pair_place (pair_count w)) a in
        let t = set u (pair_place (pair_count w) + 1) b in
        ap₂ (λ (x y : ℕ). (x, y))
        (get_or-set_other t pairs_at (pair_place (pair_count w)) (pair_count w + 1) 0 (λ z. omega arith)
        ∙ get_or-set_other u (pair_place (pair_count w) + 1) (pair_place (pair_count w)) b 0 (λ z. omega arith)
        ∙ get_or-set_same w (pair_place (pair_count w)) a 0 (omega arith))
        (get_or-set_other t pairs_at (pair_place (pair_count w) + 1) (pair_count w + 1) 0 (λ z. omega arith)
        ∙ get_or-set_same u (pair_place (pair_count w) + 1) b 0 (rw length-set (omega arith)))

    with_pairs_lem : pairs_in (with_pair w a b) ≡ pairs_in w ++ ((a, b) ∷ [])
    with_pairs_lem =
        ap (λ (n : ℕ). map (pair_at (with_pair w a b)) (counting 0 n)) with_count
        ∙ counted_more (pair_at (with_pair w a b)) (pair_count w)
        ∙ ap₂ (λ (l : List (ℕ × ℕ)) (x : ℕ × ℕ). l ++ (x ∷ []))
        (counted_same (pair_at (with_pair w a b)) (pair_at w) 0 (pair_count w) (λ i l. ap₂ (λ (x y : ℕ). (x, y))
        (with_only.others (pair_place i) (⊎_elim (λ z. omega arith) (⊎_elim (λ z. omega arith) (λ z. omega arith))))
        (with_only.others (pair_place i + 1) (⊎_elim (λ z. omega arith) (⊎_elim (λ z. omega arith) (λ z. omega arith)))))) with_last

-- ---- `list_pairs`

-- the list with what a record states
abbrev pub gathered : List (ℕ × ℕ) → Axiom → List (ℕ × ℕ)
gathered l x = l ++ disjoint_pair x

gathered_all : (l : List (ℕ × ℕ)) (R : List Axiom) → foldl gathered l R ≡ l ++ flat_map disjoint_pair R
gathered_all l [] = sym (append-nil l)
gathered_all l (x ∷ R) = gathered_all (l ++ disjoint_pair x) R ∙ append_assoc l (disjoint_pair x) (flat_map disjoint_pair R)

-- what a record states, from w to u
record Step (l : List (ℕ × ℕ)) (w u : List ℕ) : Type 0 where
  only : Only (Span pairs_at pairs_end) w u
  more : pair_count u ≤ pair_count w + 1
  pairs : pairs_in u ≡ pairs_in w ++ l

stepped : (l : List (ℕ × ℕ)) → length l ≤ 1 → (w : List ℕ) → PairRoom w → Step l w (foldl (λ u p. with_pair u p.0 p.1) w l)
stepped [] few w r = record { only = only_none; more = omega arith; pairs = sym (append-nil (pairs_in w)) }
stepped ((a, b) ∷ []) few w r = record {
  only = only_wider (λ i. ⊎_elim (λ z. record { low = omega arith; high = omega arith })
      (⊎_elim (λ z. record { low = omega arith; high = omega arith }) (λ z. record { low = omega arith; high = omega arith }))) (with_only w a b r);
  more = omega (arith, with_count w a b r);
  pairs = with_pairs_lem w a b r;
}
stepped (p ∷ (q ∷ l)) few w r = absurd (omega arith)

-- at record k the list has what the records before it state; w₀ has the list begun
pub record Listing (v w₀ : List ℕ) (k : ℕ) (w : List ℕ) : Type 0 where
  pub only : Only (Span pairs_at pairs_end) w₀ w
  pub room : pair_count w + falling (last_of 4 v) k ≤ most_pairs
  pub walk : Folding v gathered [] k (pairs_in w)

-- from w, with the list begun in w₀
module _ (v w : List ℕ) (r : vocabulary_refusal v ≡ 0) (fits : pairs_end ≤ length w) where
  none : pairs_in (set w pairs_at 0) ≡ []
  none = rw (get_or-set_same w pairs_at 0 0 (omega arith))

  pub listing_starts : {k : ℕ} → k ≡ first_axiom v → Listing v (set w pairs_at 0) k (set w pairs_at 0)
  listing_starts {k} e = record {
    only = only_none;
    room = omega (arith, get_or-set_same w pairs_at 0 0 (omega arith), falling_le (last_of 4 v) k, (accepted_size v r).2);
    walk = rw none (folding_starts r e);
  }

  module _ {k : ℕ} {t : List ℕ} (h : Listing v (set w pairs_at 0) k t) where
    pub listing_ends : k ≡ 0 → Listed v w t
    unfolding disjoint_pairs
    listing_ends z = record {
      only = only_then (only_set pairs_at 0 (record { low = omega arith; high = omega arith }) only_none) h.only;
      listed = record { few = omega arith; rows = folding_ends h.walk z ∙ gathered_all [] (vocabulary_of v).axioms };
    }

    module _ (n : k ≡ 0 → ⊥) where
      falls : falling (last_of 4 v) (axiom_next v k) < falling (last_of 4 v) k
      falls = folding_falls h.walk n {x = axiom_next v k} refl

      pub listing_room : PairRoom t
      listing_room = (omega (arith, falls, h.room), omega (arith, h.only.size, length-set w pairs_at 0))

      pub listing_on : {x : ℕ} {u : List ℕ} → x ≡ axiom_next v k → u ≡ enlisted t (axiom_at v k) → Listing v (set w pairs_at 0) x u
      listing_on {x} {u} p e = rw e (
          let s = stepped (disjoint_pair (axiom_at v k)) (disjoint_pair_one (axiom_at v k)) t listing_room in
          let less : falling (last_of 4 v) x < falling (last_of 4 v) k = folding_falls h.walk n p in
          record {
            only = only_then h.only s.only;
            room = omega (arith, s.more, h.room);
            walk = folding_on h.walk n p s.pairs;
          })

-- ---- one pair asked: the second class is looked for where the set has the first

module _ (w ws : List ℕ) (i : ℕ) {at : ℕ} {s : Bool} (ea : at ≡ pair_place i) (es : s ≡ in_set ws (get_or w at 0)) where
  pub has_none : s ≡ false → s ≡ has_both ws (pair_at w i)
  has_none h = sym (rw (← ea, ← es, h))

  pub has_both_lem : {t : Bool} → s ≡ true → t ≡ in_set ws (get_or w (at + 1) 0) → t ≡ has_both ws (pair_at w i)
  has_both_lem h et = et ∙ sym (rw (← ea, ← es, h))

-- ---- all pairs asked

-- numbers of a range
pub all_ranged : (f : ℕ → Bool) (k n : ℕ) → list_all f (range_with_len k n) ≡ all f (counting k n)
all_ranged f k zero = refl
all_ranged f k (suc n) = rw add-one (ap (λ (b : Bool). f k && b) (all_ranged f (suc k) n))
