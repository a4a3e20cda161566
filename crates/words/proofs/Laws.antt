-- Sets in any number of words: the members after with and union, their list, their count. Assumes nothing.
use Prim.Native.Nat.{◌%◌, ◌+◌, ◌/◌, ◌<◌, ◌^◌, ◌≤◌, suc, zero, ℕ}
use lib.Bits.{bit_or, or_zero_r}
use lib.Count.{ones_in}
use lib.Dec.{eqb, eqb-suc-suc, eqb-suc-zero, eqb-zero-suc}
use lib.ListN.{get_or-eq_default, get_or, length, length-set, replicate, set, take}
use lib.Seq.{get_or-set_other, get_or-set_same, set_out}
use mathlib.Core.Bool.{Bool, ◌&&◌, ◌||◌, cond, false, true, true≢false}
use mathlib.Core.List.{List, [], ◌∷◌}
use mathlib.Core.Logic.{⊎_elim}
use mathlib.Core.Path.{◌∙◌, ◌≡◌, ap, ap₂, refl, sym}
use native.Mathlib.Omega.{arith}
use borrow.Author.Tests.{eq-eqb, eqb-false, eqb-true, le-leb, lt-leb, ne_eqb}
use Rattle.meaning.specs.Lists.{◌∈◌, counting, filter}
use Rattle.meaning.specs.Records.{is_name}
use Rattle.theory.proofs.Counting.{in_counting}
use Rattle.theory.proofs.Rules.{order}
use Rattle.words.proofs.Bits.{bit_none, bit_or_lem, bit_pow}
use Rattle.words.proofs.Lists.{Rising, filter_in, filter_within, in_filter, rising_counting, rising_filter}
use Rattle.words.proofs.Lists.{tally_add, tally_most, tally_ones, tally_shift}
use Rattle.words.specs.Members.{members, set_bits}
use Rattle.words.specs.Sets.{capacity, in_set, including, test_bit, union_of}

pub named_within : (n x : ℕ) → 0 < x → x ≤ n → is_name n x ≡ true
named_within n x p h = rw (le-leb 1 x p, le-leb x n h)

pub named_past : (n x : ℕ) → n < x → is_name n x ≡ false
named_past n x h = rw (le-leb 1 x (omega arith), lt-leb x n h)

-- ---- what is in no set

pub in_past : (ws : List ℕ) (c : ℕ) → capacity ws < c → in_set ws c ≡ false
unfolding in_set
in_past ws zero h = refl
in_past ws (suc i) h = ap (λ (w : ℕ). test_bit w (i % 32)) (get_or-eq_default ws 0 (omega arith)) ∙ bit_none (i % 32)

pub zeros_at : (n j : ℕ) → ◌≡◌ {A = ℕ} (get_or (replicate n 0) j 0) 0
zeros_at zero j = refl
zeros_at (suc n) zero = refl
zeros_at (suc n) (suc j) = zeros_at n j

-- the empty set has no member
pub in_zeros : (n d : ℕ) → in_set (replicate n 0) d ≡ false
unfolding in_set
in_zeros n zero = refl
in_zeros n (suc k) = ap (λ (w : ℕ). test_bit w (k % 32)) (zeros_at n (k / 32)) ∙ bit_none (k % 32)

-- ---- one member more

pub length_including : (ws : List ℕ) (c : ℕ) → length (including ws c) ≡ length ws
unfolding including
length_including ws zero = refl
length_including ws (suc i) = length-set ws (i / 32) (bit_or (get_or ws (i / 32) 0) (2 ^ (i % 32)))

-- two numbers of one word are the same where their places in it are
same_place : (k i : ℕ) → k / 32 ≡ i / 32 → eqb (k % 32) (i % 32) ≡ eqb k i
same_place k i q = go (eqb k i) refl
  where
    go : (b : Bool) → eqb k i ≡ b → eqb (k % 32) (i % 32) ≡ b
    go true e = eq-eqb (k % 32) (i % 32) (ap (λ (n : ℕ). n % 32) (eqb-true k i e))
    go false e = ne_eqb (k % 32) (i % 32) (λ p. eqb-false k i e (omega arith))

or_cond : (x b n : Bool) → (b ≡ true → n ≡ true) → x || b ≡ cond b n x
or_cond true true n h = sym (h refl)
or_cond true false n h = refl
or_cond false true n h = sym (h refl)
or_cond false false n h = refl

-- where the test says no, and where it says yes of what agrees
unchanged : (x b n : Bool) → (b ≡ true → x ≡ n) → x ≡ cond b n x
unchanged x true n h = h refl
unchanged x false n h = refl

-- the bit of k, once the bit of i is set
abbrev AfterBit : List ℕ → ℕ → ℕ → Type 0
AfterBit ws i k = in_set (including ws (suc i)) (suc k) ≡ cond (eqb k i) (is_name (capacity ws) (suc k)) (in_set ws (suc k))

module _ (ws : List ℕ) (i k : ℕ) where
  -- in the word of i
  same_word : i / 32 < length ws → k / 32 ≡ i / 32 → AfterBit ws i k
  unfolding in_set including
  same_word h q =
      let w = get_or ws (i / 32) 0 in
      let w' = bit_or w (2 ^ (i % 32)) in
      ap (λ (x : ℕ). test_bit x (k % 32)) (ap (λ (n : ℕ). get_or (set ws (i / 32) w') n 0) q ∙ get_or-set_same ws (i / 32) w' 0 h)
      ∙ bit_or_lem w (2 ^ (i % 32)) (k % 32)
      ∙ ap₂ ◌||◌ (ap (λ (n : ℕ). test_bit (get_or ws n 0) (k % 32)) (sym q)) (bit_pow (i % 32) (k % 32) ∙ same_place k i q)
      ∙ or_cond (test_bit (get_or ws (k / 32) 0) (k % 32)) (eqb k i) (is_name (capacity ws) (suc k))
      (λ e. named_within (capacity ws) (suc k) (omega arith) (omega arith))

  other_word : (k / 32 ≡ i / 32 → ⊥) → AfterBit ws i k
  unfolding in_set including
  other_word n =
      ap (λ (x : ℕ). test_bit x (k % 32)) (get_or-set_other ws (i / 32) (k / 32) (bit_or (get_or ws (i / 32) 0) (2 ^ (i % 32))) 0 n)
      ∙ unchanged (test_bit (get_or ws (k / 32) 0) (k % 32)) (eqb k i) (is_name (capacity ws) (suc k))
      (λ e. absurd (n (ap (λ (x : ℕ). x / 32) (eqb-true k i e))))

  no_word : length ws ≤ i / 32 → AfterBit ws i k
  unfolding including
  no_word h =
      ap (λ (l : List ℕ). in_set l (suc k)) (set_out ws (i / 32) (bit_or (get_or ws (i / 32) 0) (2 ^ (i % 32))) h)
      ∙ unchanged (in_set ws (suc k)) (eqb k i) (is_name (capacity ws) (suc k))
      (λ e. let q = eqb-true k i e in in_past ws (suc k) (omega arith) ∙ sym (named_past (capacity ws) (suc k) (omega arith)))

  after_bit : AfterBit ws i k
  after_bit = ⊎_elim (λ h. go h (eqb (k / 32) (i / 32)) refl) no_word (order (i / 32) (length ws))
    where
      go : i / 32 < length ws → (b : Bool) → eqb (k / 32) (i / 32) ≡ b → AfterBit ws i k
      go h true e = same_word h (eqb-true (k / 32) (i / 32) e)
      go h false e = other_word (eqb-false (k / 32) (i / 32) e)

-- c is in, where the words have a bit for it, and all else is as it was
pub in_including : (ws : List ℕ) (c d : ℕ) → in_set (including ws c) d ≡ cond (eqb d c) (is_name (capacity ws) d) (in_set ws d)
unfolding in_set including
in_including ws zero zero = refl
in_including ws zero (suc k) = rw (eqb-suc-zero k)
in_including ws (suc i) zero = rw (eqb-zero-suc i)
in_including ws (suc i) (suc k) = after_bit ws i k ∙ rw (eqb-suc-suc k i)

-- ---- the union

pub length_union : (ws vs : List ℕ) → length (union_of ws vs) ≡ length ws
unfolding union_of
length_union [] vs = refl
length_union (w ∷ ws) [] = refl
length_union (w ∷ ws) (v ∷ vs) = ap suc (length_union ws vs)

pub union_at : (ws vs : List ℕ) → length vs ≤ length ws → (j : ℕ) → get_or (union_of ws vs) j 0 ≡ bit_or (get_or ws j 0) (get_or vs j 0)
unfolding union_of
union_at [] [] h j = refl
union_at [] (v ∷ vs) h j = absurd (omega arith)
union_at (w ∷ ws) [] h j = sym (or_zero_r (get_or (w ∷ ws) j 0))
union_at (w ∷ ws) (v ∷ vs) h zero = refl
union_at (w ∷ ws) (v ∷ vs) h (suc j) = union_at ws vs (omega arith) j

pub in_union : (ws vs : List ℕ) → length vs ≤ length ws → (d : ℕ) → in_set (union_of ws vs) d ≡ in_set ws d || in_set vs d
unfolding in_set
in_union ws vs h zero = refl
in_union ws vs h (suc k) =
    ap (λ (w : ℕ). test_bit w (k % 32)) (union_at ws vs h (k / 32)) ∙ bit_or_lem (get_or ws (k / 32) 0) (get_or vs (k / 32) 0) (k % 32)

-- ---- the members, rising

pub members_rising : (ws : List ℕ) → Rising 0 (members ws)
unfolding members
members_rising ws = rising_filter (in_set ws) 0 (counting 1 (capacity ws)) (rising_counting 0 (capacity ws))

-- what is listed is in the set
pub listed_in : (ws : List ℕ) (c : ℕ) → c ∈ members ws → in_set ws c ≡ true
unfolding members
listed_in ws c i = filter_in (in_set ws) c (counting 1 (capacity ws)) i

-- what is in the set has a bit in the words
pub in_within : (ws : List ℕ) (c : ℕ) → in_set ws c ≡ true → (1 ≤ c) × (c ≤ capacity ws)
unfolding in_set
in_within ws zero t = absurd (true≢false (sym t))
in_within ws (suc i) t = (
  omega arith,
  ⊎_elim (λ h. absurd (true≢false (sym t ∙ in_past ws (suc i) h))) (λ h. h) (order (capacity ws) (suc i)),
)

-- what is in the set is listed
pub in_listed : (ws : List ℕ) (c : ℕ) → in_set ws c ≡ true → c ∈ members ws
unfolding members
in_listed ws c t =
    let w = in_within ws c t in
    in_filter (in_set ws) c (counting 1 (capacity ws)) t (in_counting 1 (capacity ws) c w.0 (omega (arith, w.1)))

-- a set of numbers up to n that a test tells: those of 1 to n that pass it
pub members_are : (ws : List ℕ) (p : ℕ → Bool) (n : ℕ) → n ≤ capacity ws → ((d : ℕ) → in_set ws d ≡ is_name n d && p d)
    → members ws ≡ filter p (counting 1 n)
unfolding members
members_are ws p n l h =
    filter_within (in_set ws) p 1 n (capacity ws) l
    (λ x k m. h x ∙ rw (named_within n x k (omega arith))) (λ x k. h x ∙ rw (named_past n x (omega arith)))

-- ---- how many

in_first : (w : ℕ) (ws : List ℕ) (j x : ℕ) → j < 32 → x ≡ 1 + j → in_set (w ∷ ws) x ≡ test_bit w j
unfolding in_set
in_first w ws j zero h e = absurd (omega arith)
in_first w ws j (suc i) h e =
    let word : i / 32 ≡ 0 = omega arith in
    let bit : i % 32 ≡ j = omega arith in
    ap₂ (λ (q r : ℕ). test_bit (get_or (w ∷ ws) q 0) r) word bit

in_later : (w : ℕ) (ws : List ℕ) (x y : ℕ) → 33 ≤ x → x + 1 ≡ y + 33 → in_set (w ∷ ws) x ≡ in_set ws y
unfolding in_set
in_later w ws zero y h e = absurd (omega arith)
in_later w ws (suc i) zero h e = absurd (omega arith)
in_later w ws (suc i) (suc k) h e =
    let word : i / 32 ≡ suc (k / 32) = omega arith in
    let bit : i % 32 ≡ k % 32 = omega arith in
    ap₂ (λ (q r : ℕ). test_bit (get_or (w ∷ ws) q 0) r) word bit

-- the first d numbers are the bits of a word, the others those of a later test
first_word : (p q : ℕ → Bool) (d w n s : ℕ) → ((j x : ℕ) → j < d → x ≡ 1 + j → p x ≡ test_bit w j)
    → ((x y : ℕ) → suc d ≤ x → x + 1 ≡ y + suc d → p x ≡ q y) → s ≡ d + n
    → length (filter p (counting 1 s)) ≡ ones_in d w + length (filter q (counting 1 n))
first_word p q d w n s h g e =
    tally_add p 1 d n (suc d) s (omega arith) e ∙ ap₂ ◌+◌ (tally_ones p d w 1 h) (tally_shift p q (suc d) 1 n g)

counted : (ws : List ℕ) (s : ℕ) → s ≡ capacity ws → length (filter (in_set ws) (counting 1 s)) ≡ set_bits ws
unfolding set_bits
counted [] zero e = refl
counted [] (suc s) e = absurd (omega arith)
counted (w ∷ ws) s e =
    first_word (in_set (w ∷ ws)) (in_set ws) 32 w (capacity ws) s (in_first w ws) (in_later w ws) (omega arith)
    ∙ ap (λ (n : ℕ). ones_in 32 w + n) (counted ws (capacity ws) refl)

-- as many as the words' bits that are set
pub count_members : (ws : List ℕ) → length (members ws) ≡ set_bits ws
unfolding members
count_members ws = counted ws (capacity ws) refl

pub members_few : (ws : List ℕ) → length (members ws) ≤ capacity ws
unfolding members
members_few ws = tally_most (in_set ws) 1 (capacity ws)

pub bits_more : (ws : List ℕ) (i : ℕ) → i < length ws → set_bits (take (suc i) ws) ≡ set_bits (take i ws) + ones_in 32 (get_or ws i 0)
unfolding set_bits
bits_more [] i h = absurd (omega arith)
bits_more (w ∷ ws) zero h = omega arith
bits_more (w ∷ ws) (suc i) h = let ih = bits_more ws i (omega arith) in omega arith
