-- The code's tests and stores, over plain lists and numbers: one law for each return. Assumes nothing.
use Prim.Native.Nat.{◌%◌, ◌*◌, ◌+◌, ◌-◌, ◌/◌, ◌<◌, ◌^◌, ◌≤◌, suc, zero, ℕ}
use lib.Bits.{bit_and, bit_or}
use lib.Count.{ones, count_trailing_zeros}
use lib.Dec.{eqb}
use lib.ListN.{drop, get_or, length, set, take}
use lib.Pow.{shl_exact}
use lib.Seq.{ext_get_or, get_or-drop, get_or-set_other, get_or-set_same, get_or-take, set_out, take_all}
use mathlib.Core.Bool.{Bool, ◌||◌, cond, false, true}
use mathlib.Core.List.{List}
use mathlib.Core.Path.{◌∙◌, ◌≡◌, ap, refl, sym}
use native.Mathlib.Nat.{one-mul}
use native.Mathlib.Numerals.{add-one}
use native.Mathlib.Omega.{arith}
use borrow.Author.Tests.{eqb-false, eqb-true}
use Rattle.frames.proofs.Rows.{length_row}
use Rattle.frames.specs.Rows.{row_at}
use Rattle.meaning.specs.Records.{is_name}
use Rattle.words.proofs.Bits.{bit_mask, ones_within}
use Rattle.words.proofs.Laws.{bits_more, count_members, in_including, in_past, in_union, length_union, union_at}
use Rattle.words.proofs.Listing.{above_past, rest_empty, rest_lowest, rest_within}
use Rattle.words.specs.Members.{members, members_above, next_member, set_bits}
use Rattle.words.specs.Sets.{capacity, in_set, including, test_bit, union_of}

-- ---- `has` and `insert`: 0, a number past the words, a number with a bit in the word at

pub has_zero : (ws : List ℕ) (x : ℕ) → x ≡ 0 → false ≡ in_set ws x
unfolding in_set
has_zero ws x e = rw e

pub insert_zero : (ws : List ℕ) (x : ℕ) → x ≡ 0 → ws ≡ including ws x
unfolding including
insert_zero ws x e = rw e

module _ (ws : List ℕ) (x at : ℕ) (n : x ≡ 0 → ⊥) (e : at ≡ (x - 1) / 32) where
  pub has_past : length ws ≤ at → false ≡ in_set ws x
  has_past h = sym (in_past ws x (omega arith))

  pub has_bit : eqb (bit_and (get_or ws at 0 / 2 ^ ((x - 1) % 32)) 1) 1 ≡ in_set ws x
  unfolding in_set
  has_bit = bit_mask (get_or ws at 0) ((x - 1) % 32) ∙ go x n e
    where
      go : (x : ℕ) → (x ≡ 0 → ⊥) → at ≡ (x - 1) / 32 → test_bit (get_or ws at 0) ((x - 1) % 32) ≡ in_set ws x
      go zero n e = absurd (n refl)
      go (suc i) n e = let p : suc i - 1 ≡ i = omega arith in rw (e, p)

  pub insert_past : length ws ≤ at → ws ≡ including ws x
  unfolding including
  insert_past h = go x n e
    where
      go : (x : ℕ) → (x ≡ 0 → ⊥) → at ≡ (x - 1) / 32 → ws ≡ including ws x
      go zero n e = absurd (n refl)
      go (suc i) n e = sym (set_out ws (i / 32) (bit_or (get_or ws (i / 32) 0) (2 ^ (i % 32))) (omega arith))

  pub insert_bit : set ws at (bit_or (get_or ws at 0) (1 * 2 ^ ((x - 1) % 32) % 2 ^ 32)) ≡ including ws x
  unfolding including
  insert_bit =
      let one = shl_exact 1 ((x - 1) % 32) 32 (omega arith) (omega arith) ∙ one-mul (2 ^ ((x - 1) % 32)) in
      ap (λ (b : ℕ). set ws at (bit_or (get_or ws at 0) b)) one ∙ go x n e
    where
      go : (x : ℕ) → (x ≡ 0 → ⊥) → at ≡ (x - 1) / 32 → set ws at (bit_or (get_or ws at 0) (2 ^ ((x - 1) % 32))) ≡ including ws x
      go zero n e = absurd (n refl)
      go (suc i) n e = let p : suc i - 1 ≡ i = omega arith in rw (e, p)

-- ---- `count`: the bits of the words passed

pub counted_none : (ws : List ℕ) → 0 ≡ set_bits (take 0 ws)
unfolding set_bits
counted_none ws = refl

pub counted_more : (ws : List ℕ) (i n : ℕ) → i < length ws → get_or ws i 0 < 2 ^ 32 → n ≡ set_bits (take i ws)
    → n + ones (get_or ws i 0) ≡ set_bits (take (i + 1) ws)
counted_more ws i n l h e = rw (add-one i) (omega (arith, bits_more ws i l, ones_within 32 (get_or ws i 0) h))

pub counted_all : (ws : List ℕ) (i n : ℕ) → length ws ≤ i → n ≡ set_bits (take i ws) → n ≡ length (members ws)
counted_all ws i n l e = e ∙ ap set_bits (take_all i ws l) ∙ sym (count_members ws)

-- ---- `next`: from i on

pub next_fits : (ws : List ℕ) (i at : ℕ) → at ≡ i / 32 → at < length ws → get_or ws at 0 < 2 ^ 32 → (get_or ws at 0 / 2 ^ (i % 32) ≡ 0 → ⊥)
    → i + count_trailing_zeros 32 (get_or ws at 0 / 2 ^ (i % 32)) + 1 ≤ capacity ws
next_fits ws i at e l h n = rw e (let within = rest_within ws i (rw e at h) (rw e at n) in omega arith)

module _ (ws : List ℕ) (x i at : ℕ) (e : at ≡ i / 32) (same : members_above ws i ≡ members_above ws x) where
  pub next_found : get_or ws at 0 < 2 ^ 32 → (get_or ws at 0 / 2 ^ (i % 32) ≡ 0 → ⊥)
      → i + count_trailing_zeros 32 (get_or ws at 0 / 2 ^ (i % 32)) + 1 ≡ next_member ws x
  next_found h n = rw (e, ← same) (rest_lowest ws i (rw e at h) (rw e at n))

  pub next_word : get_or ws at 0 / 2 ^ (i % 32) ≡ 0 → members_above ws (i / 32 * 32 + 32) ≡ members_above ws x
  next_word z = sym (rest_empty ws i (rw e at z)) ∙ same

  pub next_end : length ws ≤ at → 0 ≡ next_member ws x
  next_end h = ap (λ (l : List ℕ). get_or l 0 0) (sym (above_past ws i (omega arith)) ∙ same)

-- ---- `union` and `load`: an array that is filled from the front

abbrev pub Filled : (ℕ → ℕ) → List ℕ → ℕ → Type 0
Filled f r i = (j : ℕ) → j < i → get_or r j 0 ≡ f j

pub filled_more : (f : ℕ → ℕ) (r : List ℕ) (i : ℕ) → i < length r → Filled f r i → Filled f (set r i (f i)) (i + 1)
filled_more f r i l h j p = go (eqb j i) refl
  where
    go : (t : Bool) → eqb j i ≡ t → get_or (set r i (f i)) j 0 ≡ f j
    go true e = rw (eqb-true j i e) (get_or-set_same r i (f i) 0 l)
    go false e = let n = eqb-false j i e in get_or-set_other r i j (f i) 0 n ∙ h j (omega arith)

pub union_filled : (a b r : List ℕ) (i : ℕ) → length r ≡ length a → length b ≤ length a → length r ≤ i
    → Filled (λ j. bit_or (get_or a j 0) (get_or b j 0)) r i → r ≡ union_of a b
union_filled a b r i l m p h =
    ext_get_or 0 r (union_of a b) (l ∙ sym (length_union a b)) (λ j q. h j (omega arith) ∙ sym (union_at a b m j))

pub row_filled : (n : ℕ) (ws : List ℕ) (at : ℕ) (r : List ℕ) (i : ℕ) → at + n ≤ length ws → length r ≡ n → n ≤ i
    → Filled (λ j. get_or ws (at + j) 0) r i → r ≡ row_at n ws at
row_filled n ws at r i l m p h =
    ext_get_or 0 r (row_at n ws at) (m ∙ sym (length_row n ws at l))
    (λ j q. h j (omega arith) ∙ sym (get_or-take n (drop at ws) j 0 (omega arith) ∙ get_or-drop at ws j 0))

-- ---- the members of an answer

pub members_with : (ws r : List ℕ) (c n : ℕ) → capacity ws ≡ n → r ≡ including ws c
    → (d : ℕ) → in_set r d ≡ cond (eqb d c) (is_name n d) (in_set ws d)
members_with ws r c n m e d = rw (e, ← m) (in_including ws c d)

pub members_union : (a b r : List ℕ) → length b ≤ length a → r ≡ union_of a b → (d : ℕ) → in_set r d ≡ in_set a d || in_set b d
members_union a b r l e d = rw e (in_union a b l d)
