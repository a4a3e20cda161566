-- The records of two sets of classes, compared by the least class that is in one of them alone. Assumes nothing.
use Prim.Native.Nat.{◌%◌, ◌*◌, ◌+◌, ◌-◌, ◌/◌, ◌<◌, ◌^◌, ◌≤◌, suc, zero, ℕ}
use mathlib.Core.Bool.{Bool, ◌||◌, cond, false, not, true}
use mathlib.Core.List.{List, [], ◌∷◌}
use mathlib.Core.Path.{◌∙◌, ◌≡◌, ap, ap₂, refl, subst, sym}
use lib.Bits.{and_le_l, and_le_r, bit_xor, xor_add_and, xor_lt}
use lib.Count.{count_trailing_zeros}
use lib.Dec.{eqb, ltb}
use lib.ListN.{get_or, length}
use native.Mathlib.Omega.{arith}
use borrow.Author.Tests.{eqb-false, eqb-true, le-ltb, ltb-false, ltb-true}
use Rattle.std.proofs.Common.{w32}
use Rattle.std.proofs.lemmas.Cmp.{nat_list_cmp_total}
use Rattle.std.proofs.lemmas.Nat.Bits.{bit_at-lt, bit_at-trailing_zeros, bit_at_xor}
use Rattle.std.specs.Int.{bit_at}
use Rattle.std.specs.Ordering.{ordering_reverse, ordering_then}
use Rattle.std.specs.declared.cmp.Ordering.{Ordering}
use Rattle.std.specs.declared.cmp.Ordering.TheVariants.{Equal, Greater, Less}
use Rattle.entries.proofs.Ordering.{alike, less_first}
use Rattle.entries.specs.Entries.{AlikeTo, ComparesClasses, FirstDifference, HasSame, class_fields}
use Rattle.entries.specs.Order.{Continues, order_of}
use Rattle.meaning.specs.Lists.{counting, filter}
use Rattle.words.proofs.Laws.{in_past, in_within}
use Rattle.words.proofs.Listing.{next_none, next_some}
use Rattle.words.proofs.Lists.{above_all, above_first, rising_counting, rising_filter}
use Rattle.words.specs.Members.{members, members_above, next_member}
use Rattle.words.specs.Rows.{class_words}
use Rattle.words.specs.Sets.{capacity, in_set, test_bit}

-- ---- equal classes

pub classes_alike : (d : ℕ) (cs l m : List ℕ) → order_of (class_fields d cs l) (class_fields d cs m) ≡ order_of l m
classes_alike d [] l m = refl
classes_alike d (c ∷ cs) l m =
    let r = class_fields d cs l in
    let s = class_fields d cs m in
    alike 1 (c ∷ (0 ∷ (0 ∷ (d ∷ r)))) (c ∷ (0 ∷ (0 ∷ (d ∷ s)))) ∙ alike c (0 ∷ (0 ∷ (d ∷ r))) (0 ∷ (0 ∷ (d ∷ s)))
    ∙ alike 0 (0 ∷ (d ∷ r)) (0 ∷ (d ∷ s)) ∙ alike 0 (d ∷ r) (d ∷ s) ∙ alike d r s ∙ classes_alike d cs l m

filter_alike : (P Q : ℕ → Bool) → ((x : ℕ) → P x ≡ Q x) → (l : List ℕ) → filter P l ≡ filter Q l
filter_alike P Q h [] = refl
filter_alike P Q h (x ∷ l) = rw (h x, filter_alike P Q h l)

-- ---- class c is in the first alone, and those below it are in both or in none

five_alike : (x d : ℕ) (l m : List ℕ) → order_of (1 ∷ (x ∷ (0 ∷ (0 ∷ (d ∷ l))))) (1 ∷ (x ∷ (0 ∷ (0 ∷ (d ∷ m))))) ≡ order_of l m
five_alike x d l m = classes_alike d (x ∷ []) l m

module _ (P Q : ℕ → Bool) (d c : ℕ) (agree : (x : ℕ) → x < c → P x ≡ Q x) (has : P c ≡ true) (lacks : Q c ≡ false) where
  -- the first list goes on with c, the second with what it has above c
  abbrev Parted : List ℕ → List ℕ → List ℕ → List ℕ → Type 0
  Parted ps qs l m = (z : List ℕ) × (order_of (class_fields d ps l) (class_fields d qs m) ≡ order_of (1 ∷ (c ∷ z)) (class_fields d (filter (ltb c) qs) m))

  parted : (a n : ℕ) (l m : List ℕ) → a ≤ c → c < a + n → Parted (filter P (counting a n)) (filter Q (counting a n)) l m
  parted a zero l m h g = absurd (omega arith)
  parted a (suc n) l m h g = go (eqb a c) refl (λ k. parted (suc a) n l m (omega arith) (omega arith))
    where
      ps : List ℕ
      ps = filter P (counting (suc a) n)

      qs : List ℕ
      qs = filter Q (counting (suc a) n)

      before : a < c → (b : Bool) → Parted ps qs l m → Parted (cond b (a ∷ ps) ps) (cond b (a ∷ qs) qs) l m
      before k true (z, e) = (z, five_alike a d (class_fields d ps l) (class_fields d qs m) ∙ e ∙ rw (le-ltb c a (omega arith)))
      before k false w = w

      go : (b : Bool) → eqb a c ≡ b → (a < c → Parted ps qs l m) → Parted (cond (P a) (a ∷ ps) ps) (cond (Q a) (a ∷ qs) qs) l m
      go true e ih =
          let z = eqb-true a c e in
          let p : P a ≡ true = rw z has in
          let q : Q a ≡ false = rw z lacks in
          let r = above_all c a qs (omega arith) (rising_filter Q a (counting (suc a) n) (rising_counting a n)) in
          rw (p, q) ((0 ∷ (0 ∷ (d ∷ class_fields d ps l)), rw (r, z)))
      go false e ih =
          let k : a < c = (let z = eqb-false a c e in omega arith) in
          rw (agree a k) (before k (Q a) (ih k))

-- ---- the sets

-- whether more numbers than those up to class c's own follow
abbrev goes_on : List ℕ → ℕ → Bool → Bool
goes_on t c other = other || not (eqb (next_member t c) 0)

ending : (c : ℕ) (z : List ℕ) (other : Bool) (m : List ℕ) → Continues other m → order_of (1 ∷ (c ∷ z)) m ≡ cond (other || false) Less Greater
ending c z true [] k = absurd k
ending c z true (x ∷ m) k = less_first 1 x (c ∷ z) m k
ending c z false [] k = refl
ending c z false (x ∷ m) k = absurd (let e : length (x ∷ m) ≡ 0 = ap length k in omega arith)

behind : (t : List ℕ) (c d : ℕ) (z : List ℕ) (other : Bool) (m : List ℕ) → Continues other m →
    order_of (1 ∷ (c ∷ z)) (class_fields d (members_above t c) m) ≡ cond (goes_on t c other) Less Greater
behind t c d z other m k = go (eqb (next_member t c) 0) refl
  where
    last : (o : Bool) → Less ≡ cond (o || true) Less Greater
    last true = refl
    last false = refl

    go : (b : Bool) → eqb (next_member t c) 0 ≡ b → order_of (1 ∷ (c ∷ z)) (class_fields d (members_above t c) m) ≡ cond (other || not b) Less Greater
    go true e = rw (next_none t c (eqb-true (next_member t c) 0 e)) (ending c z other m k)
    go false e =
        let x = next_member t c in
        let s = next_some t c (eqb-false x 0 e) in
        let h : c < x = above_first c (members t) x (members_above t x) (unfold members_above in s) in
        rw s (alike 1 (c ∷ z) (x ∷ (0 ∷ (0 ∷ (d ∷ class_fields d (members_above t x) m)))) ∙ less_first c x z _ h ∙ last other)

module _ (s t : List ℕ) (c : ℕ) (wide : length s ≡ length t) (agree : (x : ℕ) → x < c → in_set s x ≡ in_set t x) (has : in_set s c ≡ true)
    (lacks : in_set t c ≡ false) where
  goes : (other : Bool) (d : ℕ) (l m : List ℕ) → Continues other m →
      order_of (class_fields d (members s) l) (class_fields d (members t) m) ≡ cond (goes_on t c other) Less Greater
  unfolding members members_above
  goes other d l m k =
      let inside = in_within s c has in
      let w = parted (in_set s) (in_set t) d c agree has lacks 1 (capacity s) l m inside.0 (omega arith) in
      let e : capacity s ≡ capacity t = ap (λ (n : ℕ). 32 * n) wide in
      ap (λ (n : ℕ). order_of (class_fields d (members s) l) (class_fields d (filter (in_set t) (counting 1 n)) m)) (sym e)
      ∙ w.1
      ∙ ap (λ (n : ℕ). order_of (1 ∷ (c ∷ w.0)) (class_fields d (filter (ltb c) (filter (in_set t) (counting 1 n))) m)) e
      ∙ behind t c d w.0 other m k

-- ---- the functions

pub alike_more : (s t : List ℕ) (i : ℕ) → AlikeTo s t i → get_or s i 0 ≡ get_or t i 0 → AlikeTo s t (i + 1)
alike_more s t i h e j k = go (ltb j i) refl
  where
    go : (b : Bool) → ltb j i ≡ b → get_or s j 0 ≡ get_or t j 0
    go true f = h j (ltb-true j i f)
    go false f = let z : j ≡ i = (let g = ltb-false j i f in omega arith) in rw z e

-- words that are the same have the same members
pub words_agree : (s t : List ℕ) (n : ℕ) → AlikeTo s t n → (c : ℕ) → c ≤ 32 * n → in_set s c ≡ in_set t c
unfolding in_set
words_agree s t n h zero g = refl
words_agree s t n h (suc i) g = rw (h (i / 32) (omega arith))

module _ (s t : List ℕ) (left : length s ≡ class_words) (right : length t ≡ class_words) where
  pub differs_nowhere : (i : ℕ) → ((c : ℕ) → c ≤ i → in_set s c ≡ in_set t c) → 32 * class_words ≤ i → HasSame s t
  differs_nowhere i h g c = go (ltb i c) refl
    where
      go : (b : Bool) → ltb i c ≡ b → in_set s c ≡ in_set t c
      go true e = let k = ltb-true i c e in in_past s c (omega arith) ∙ sym (in_past t c (omega arith))
      go false e = h c (ltb-false i c e)

  pub compares_same : (more other : Bool) → HasSame s t → ComparesClasses s t more other Equal
  unfolding members
  compares_same more other f = record {
    says = λ k l m g h.
        ap (λ (cs : List ℕ). order_of (class_fields k (members s) l) (class_fields k cs m)) (sym same)
        ∙ classes_alike k (members s) l m;
  }
    where
      same : members s ≡ members t
      same = filter_alike (in_set s) (in_set t) f (counting 1 (capacity s)) ∙ ap (λ (n : ℕ). filter (in_set t) (counting 1 (32 * n))) (left ∙ sym right)

  module _ {d : ℕ} (f : FirstDifference s t d) (more other : Bool) where
    compares_left : in_set s d ≡ true → ComparesClasses s t more other (cond (goes_on t d other) Less Greater)
    compares_left h = record {
      says = λ k l m g i.
          goes s t d (left ∙ sym right) f.before h (lacks (in_set t d) refl) other k l m i ∙ sym (settled (goes_on t d other) (order_of l m));
    }
      where
        lacks : (b : Bool) → in_set t d ≡ b → in_set t d ≡ false
        lacks true e = absurd (f.at (h ∙ sym e))
        lacks false e = e

        settled : (b : Bool) (o : Ordering) → ordering_then (cond b Less Greater) o ≡ cond b Less Greater
        settled true o = refl
        settled false o = refl

    compares_right : in_set s d ≡ false → ComparesClasses s t more other (cond (goes_on s d more) Greater Less)
    compares_right h = record {
      says = λ k l m g i.
          nat_list_cmp_total.antisymm (class_fields k (members s) l) (class_fields k (members t) m)
          ∙ ap ordering_reverse (goes t s d (right ∙ sym left) (λ x j. sym (f.before x j)) (has (in_set t d) refl) h more k m l g)
          ∙ settled (goes_on s d more) (order_of l m);
    }
      where
        has : (b : Bool) → in_set t d ≡ b → in_set t d ≡ true
        has true e = e
        has false e = absurd (f.at (h ∙ sym e))

        settled : (b : Bool) (o : Ordering) → ordering_reverse (cond b Less Greater) ≡ ordering_then (cond b Greater Less) o
        settled true o = refl
        settled false o = refl

    pub left_before : in_set s d ≡ true → goes_on t d other ≡ true → ComparesClasses s t more other Less
    left_before h e = subst (λ (b : Bool). ComparesClasses s t more other (cond b Less Greater)) e (compares_left h)

    pub left_after : in_set s d ≡ true → goes_on t d other ≡ false → ComparesClasses s t more other Greater
    left_after h e = subst (λ (b : Bool). ComparesClasses s t more other (cond b Less Greater)) e (compares_left h)

    pub right_after : in_set s d ≡ false → goes_on s d more ≡ true → ComparesClasses s t more other Greater
    right_after h e = subst (λ (b : Bool). ComparesClasses s t more other (cond b Greater Less)) e (compares_right h)

    pub right_before : in_set s d ≡ false → goes_on s d more ≡ false → ComparesClasses s t more other Less
    right_before h e = subst (λ (b : Bool). ComparesClasses s t more other (cond b Greater Less)) e (compares_right h)

pub continues_else : {more : Bool} {n x : ℕ} → more ≡ false → n ≡ x → not (eqb n 0) ≡ (more || not (eqb x 0))
continues_else p q = rw (p, q)

-- ---- the word at place i is the first that differs

-- bit k of that word is the number 32 * i + k + 1
in_place : (ws : List ℕ) (i k x : ℕ) → k < 32 → x ≡ 32 * i + k + 1 → in_set ws x ≡ test_bit (get_or ws i 0) k
unfolding in_set
in_place ws i k zero h e = absurd (omega arith)
in_place ws i k (suc j) h e =
    let word : j / 32 ≡ i = omega arith in
    let bit : j % 32 ≡ k = omega arith in
    ap₂ (λ (q r : ℕ). test_bit (get_or ws q 0) r) word bit

same_bit : (a b k : ℕ) → bit_at (bit_xor a b) k ≡ 0 → test_bit a k ≡ test_bit b k
same_bit a b k e = ap (λ (x : ℕ). eqb x 1) (same (bit_at a k) (bit_at b k) (bit_at-lt a k) (bit_at-lt b k) (sym (bit_at_xor a b k) ∙ e))
  where
    same : (x y : ℕ) → x < 2 → y < 2 → (x + y) % 2 ≡ 0 → x ≡ y
    same x y p q e = omega arith

other_bit : (a b k : ℕ) → bit_at (bit_xor a b) k ≡ 1 → test_bit a k ≡ test_bit b k → ⊥
other_bit a b k e = other (bit_at a k) (bit_at b k) (bit_at-lt a k) (bit_at-lt b k) (sym (bit_at_xor a b k) ∙ e)
  where
    other : (x y : ℕ) → x < 2 → y < 2 → (x + y) % 2 ≡ 1 → eqb x 1 ≡ eqb y 1 → ⊥
    other zero zero p q e f = absurd (omega arith)
    other zero (suc zero) p q e f = absurd (cc)
    other (suc zero) zero p q e f = absurd (cc)
    other (suc zero) (suc zero) p q e f = absurd (omega arith)
    other zero (suc (suc y)) p q e f = absurd (omega arith)
    other (suc zero) (suc (suc y)) p q e f = absurd (omega arith)
    other (suc (suc x)) y p q e f = absurd (omega arith)

module _ (s t : List ℕ) (i : ℕ) (h : AlikeTo s t i) where
  -- k is the lowest bit in which it differs
  lowest_apart : (k : ℕ) → k < 32 → bit_at (bit_xor (get_or s i 0) (get_or t i 0)) k ≡ 1
      → ((j : ℕ) → j < k → bit_at (bit_xor (get_or s i 0) (get_or t i 0)) j ≡ 0) → FirstDifference s t (32 * i + k + 1)
  lowest_apart k m e none = record { before = before; at = at }
    where
      before : (c : ℕ) → c < 32 * i + k + 1 → in_set s c ≡ in_set t c
      before c l = go (ltb (32 * i) c) refl
        where
          go : (b : Bool) → ltb (32 * i) c ≡ b → in_set s c ≡ in_set t c
          go true f =
              let g = ltb-true (32 * i) c f in
              let j = c - (32 * i + 1) in
              in_place s i j c (omega arith) (omega arith) ∙ same_bit (get_or s i 0) (get_or t i 0) j (none j (omega arith))
              ∙ sym (in_place t i j c (omega arith) (omega arith))
          go false f = words_agree s t i h c (ltb-false (32 * i) c f)

      at : in_set s (32 * i + k + 1) ≡ in_set t (32 * i + k + 1) → ⊥
      at f =
          other_bit (get_or s i 0) (get_or t i 0) k e (sym (in_place s i k (32 * i + k + 1) m refl) ∙ f ∙ in_place t i k (32 * i + k + 1) m refl)

  pub differs_first : get_or s i 0 < 2 ^ 32 → get_or t i 0 < 2 ^ 32 → (get_or s i 0 ≡ get_or t i 0 → ⊥)
      → FirstDifference s t (32 * i + count_trailing_zeros 32 (bit_xor (get_or s i 0) (get_or t i 0)) + 1)
  differs_first p q n =
      let a = get_or s i 0 in
      let b = get_or t i 0 in
      let d = bit_xor a b in
      let some : d ≡ 0 → ⊥ = λ e. n (omega (arith, xor_add_and a b, and_le_l a b, and_le_r a b)) in
      let low = bit_at-trailing_zeros w32 d (omega arith) (xor_lt 32 a b p q) in
      lowest_apart (count_trailing_zeros 32 d) low.0 low.1 low.2
