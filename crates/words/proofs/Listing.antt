-- The members in rising order, each from the one before: what `next` says, and how it is found. Assumes nothing.
use Prim.Native.Nat.{◌%◌, ◌*◌, ◌+◌, ◌-◌, ◌/◌, ◌<◌, ◌^◌, ◌≤◌, suc, zero, ℕ}
use lib.Count.{count_trailing_zeros}
use lib.Dec.{eqb, ltb}
use lib.ListN.{get_or, length}
use lib.Pow.{shr_le}
use mathlib.Core.Bool.{Bool, cond, false, true, true≢false}
use mathlib.Core.List.{List, [], ◌∷◌}
use mathlib.Core.Logic.{⊎_elim}
use mathlib.Core.Path.{◌∙◌, ◌≡◌, ap, ap₂, refl, sym}
use native.Mathlib.Omega.{arith}
use borrow.Author.Tests.{eqb-false, eqb-true, le-ltb, lt-ltb}
use Rattle.meaning.specs.Lists.{counting}
use Rattle.theory.proofs.Rules.{order}
use Rattle.words.proofs.Bits.{below_lowest, bit_none, bit_past, bit_shift, lowest_set}
use Rattle.words.proofs.Laws.{in_listed, in_past, members_rising}
use Rattle.words.proofs.Lists.{above_all, above_first, above_least, above_rest, filter_none, filter_same}
use Rattle.words.specs.Members.{listing, members, members_above, members_from, next_member}
use Rattle.words.specs.Sets.{capacity, in_set, test_bit}

-- ---- what it is

-- above 0 stand all
pub above_zero : (ws : List ℕ) → members_above ws 0 ≡ members ws
unfolding members_above
above_zero ws = above_all 0 0 (members ws) (omega arith) (members_rising ws)

module _ (ws : List ℕ) (c : ℕ) where
  pub next_none : next_member ws c ≡ 0 → members_above ws c ≡ []
  unfolding members_above
  next_none z = go (members_above ws c) refl z
    where
      go : (l : List ℕ) → members_above ws c ≡ l → get_or l 0 0 ≡ 0 → l ≡ []
      go [] e z = refl
      go (x ∷ m) e z = absurd (let h = above_first c (members ws) x m e in omega arith)

  -- the next member, and then those above it
  pub next_some : (next_member ws c ≡ 0 → ⊥) → members_above ws c ≡ next_member ws c ∷ members_above ws (next_member ws c)
  unfolding members_above
  next_some n = go (members_above ws c) refl n
    where
      go : (l : List ℕ) → members_above ws c ≡ l → (get_or l 0 0 ≡ 0 → ⊥) → l ≡ get_or l 0 0 ∷ members_above ws (get_or l 0 0)
      go [] e n = absurd (n refl)
      go (x ∷ m) e n = ap (λ (t : List ℕ). x ∷ t) (above_rest c 0 (members ws) x m (members_rising ws) e)

  -- no member is between
  pub next_least : (z : ℕ) → in_set ws z ≡ true → c < z → (c < next_member ws c) × (next_member ws c ≤ z)
  unfolding members_above
  next_least z t h =
      let a = above_least c 0 (members ws) z (members_rising ws) (in_listed ws z t) h in
      let first : next_member ws c ≡ a.0 = ap (λ (l : List ℕ). get_or l 0 0) a.2 in
      let above = above_first c (members ws) a.0 a.1 a.2 in
      (omega arith, omega (arith, a.3))

-- for a loop `c = next(0); while c != 0 { .. c = next(c); }`: what is left at c
pub from_next : (ws : List ℕ) (c : ℕ) → members_from ws (next_member ws c) ≡ members_above ws c
unfolding members_from
from_next ws c = go (next_member ws c) refl
  where
    go : (x : ℕ) → next_member ws c ≡ x → members_from ws x ≡ members_above ws c
    go zero e = sym (next_none ws c e)
    go (suc i) e = sym (next_some ws c (λ z. absurd (omega arith)) ∙ rw e)

pub from_start : (ws : List ℕ) → members_from ws (next_member ws 0) ≡ members ws
from_start ws = from_next ws 0 ∙ above_zero ws

pub from_more : (ws : List ℕ) (c : ℕ) → (c ≡ 0 → ⊥) → members_from ws c ≡ c ∷ members_from ws (next_member ws c)
unfolding members_from
from_more ws zero n = absurd (n refl)
from_more ws (suc i) n = ap (λ (l : List ℕ). suc i ∷ l) (sym (from_next ws (suc i)))

pub from_end : (ws : List ℕ) (c : ℕ) → c ≡ 0 → members_from ws c ≡ []
unfolding members_from
from_end ws c e = rw e

pub listing_above : (most : ℕ) (ws : List ℕ) (c : ℕ) → length (members_above ws c) ≤ most → listing most ws c ≡ members_above ws c
unfolding listing
listing_above zero ws c h = go (members_above ws c) h
  where
    go : (l : List ℕ) → length l ≤ 0 → [] ≡ l
    go [] h = refl
    go (x ∷ l) h = absurd (omega arith)
listing_above (suc most) ws c h = go (eqb (next_member ws c) 0) refl (λ l. listing_above most ws (next_member ws c) l)
  where
    go : (b : Bool) → eqb (next_member ws c) 0 ≡ b
        → (length (members_above ws (next_member ws c)) ≤ most → listing most ws (next_member ws c) ≡ members_above ws (next_member ws c))
        → cond b [] (next_member ws c ∷ listing most ws (next_member ws c)) ≡ members_above ws c
    go true e ih = sym (next_none ws c (eqb-true (next_member ws c) 0 e))
    go false e ih =
        let s = next_some ws c (eqb-false (next_member ws c) 0 e) in
        let fewer = ap length s in
        ap (λ (l : List ℕ). next_member ws c ∷ l) (ih (omega arith)) ∙ sym s

-- asked from 0 on, the next member visits exactly the members, rising
pub listing_all : (most : ℕ) (ws : List ℕ) → length (members ws) ≤ most → listing most ws 0 ≡ members ws
listing_all most ws h = listing_above most ws 0 (rw (above_zero ws) h) ∙ above_zero ws

-- ---- how it is found

-- no member from i + 1 to j
pub above_skip : (ws : List ℕ) (i j : ℕ) → i ≤ j → ((k : ℕ) → i < k → k ≤ j → in_set ws k ≡ false) → members_above ws i ≡ members_above ws j
unfolding members members_above
above_skip ws i j l none = filter_same (in_set ws) (ltb i) (ltb j) both (counting 1 (capacity ws))
  where
    later : (x : ℕ) → in_set ws x ≡ true → i < x → j < x
    later x t h = ⊎_elim (λ g. g) (λ g. absurd (true≢false (sym t ∙ none x h g))) (order j x)

    both : (x : ℕ) → in_set ws x ≡ true → ltb i x ≡ ltb j x
    both x t =
        ⊎_elim (λ h. lt-ltb i x h ∙ sym (lt-ltb j x (later x t h))) (λ h. le-ltb i x h ∙ sym (le-ltb j x (omega arith))) (order i x)

pub above_past : (ws : List ℕ) (i : ℕ) → capacity ws ≤ i → members_above ws i ≡ []
unfolding members members_above
above_past ws i l = filter_none (in_set ws) (ltb i) none (counting 1 (capacity ws))
  where
    none : (x : ℕ) → in_set ws x ≡ true → ltb i x ≡ false
    none x t = ⊎_elim (λ h. absurd (true≢false (sym t ∙ in_past ws x (omega arith)))) (le-ltb i x) (order i x)

-- the bits of i's word from i on, and the place of the lowest that is set
abbrev pub rest_of : List ℕ → ℕ → ℕ
rest_of ws i = get_or ws (i / 32) 0 / 2 ^ (i % 32)

abbrev pub lowest_of : List ℕ → ℕ → ℕ
lowest_of ws i = count_trailing_zeros 32 (rest_of ws i)

module _ (ws : List ℕ) (i : ℕ) where
  in_rest : (k : ℕ) → i ≤ k → k / 32 ≡ i / 32 → in_set ws (suc k) ≡ test_bit (rest_of ws i) (k - i)
  unfolding in_set
  in_rest k l q =
      let bit : k % 32 ≡ i % 32 + (k - i) = omega arith in
      ap₂ (λ (n r : ℕ). test_bit (get_or ws n 0) r) q bit ∙ sym (bit_shift (get_or ws (i / 32) 0) (i % 32) (k - i))

  -- none is set: on to the next word
  pub rest_empty : rest_of ws i ≡ 0 → members_above ws i ≡ members_above ws (i / 32 * 32 + 32)
  rest_empty z = above_skip ws i (i / 32 * 32 + 32) (omega arith) none
    where
      none : (k : ℕ) → i < k → k ≤ i / 32 * 32 + 32 → in_set ws k ≡ false
      none zero l h = absurd (omega arith)
      none (suc k) l h = in_rest k (omega arith) (omega arith) ∙ ap (λ (v : ℕ). test_bit v (k - i)) z ∙ bit_none (k - i)

  module _ (h : get_or ws (i / 32) 0 < 2 ^ 32) (n : rest_of ws i ≡ 0 → ⊥) where
    rest_set : test_bit (rest_of ws i) (lowest_of ws i) ≡ true
    rest_set = lowest_set 32 (rest_of ws i) (omega arith) (omega (arith, shr_le (get_or ws (i / 32) 0) (i % 32)))

    -- the lowest that is set is of the same word
    pub rest_within : i % 32 + lowest_of ws i < 32
    rest_within = ⊎_elim (λ l. l) (λ l. absurd (true≢false (sym rest_set ∙ unset l))) (order (i % 32 + lowest_of ws i) 32)
      where
        unset : 32 ≤ i % 32 + lowest_of ws i → test_bit (rest_of ws i) (lowest_of ws i) ≡ false
        unset l = bit_shift (get_or ws (i / 32) 0) (i % 32) (lowest_of ws i) ∙ bit_past (get_or ws (i / 32) 0) 32 (i % 32 + lowest_of ws i) h l

    -- and is the next member
    pub rest_lowest : i + lowest_of ws i + 1 ≡ next_member ws i
    rest_lowest =
        let t = lowest_of ws i in
        let within = rest_within in
        let last : (i + t) - i ≡ t = omega arith in
        let found = in_rest (i + t) (omega arith) (omega arith) ∙ ap (test_bit (rest_of ws i)) last ∙ rest_set in
        let skipped = ap (λ (l : List ℕ). get_or l 0 0) (above_skip ws i (i + t) (omega arith) none) in
        omega (arith, next_least ws (i + t) (suc (i + t)) found (omega arith))
      where
        none : (k : ℕ) → i < k → k ≤ i + lowest_of ws i → in_set ws k ≡ false
        none zero l g = absurd (omega arith)
        none (suc k) l g =
            let within = rest_within in
            in_rest k (omega arith) (omega arith) ∙ below_lowest 32 (rest_of ws i) (k - i) (omega arith)
