-- Entries of a table: a look-up's loop, and an entry more.
use Prim.Native.Nat.{◌*◌, ◌+◌, ◌-◌, ◌<◌, ◌≤◌, suc, zero, ℕ}
use mathlib.Core.Bool.{Bool, ◌||◌, cond, false, not, true}
use mathlib.Core.List.{List, [], ◌++◌, ◌∷◌}
use mathlib.Core.Path.{◌∙◌, ◌≡◌, ap, refl, sym}
use lib.Dec.{eqb, eqb-suc-zero}
use borrow.Author.Tests.{eqb-false, eqb-true, ne_eqb}
use lib.ListN.{get_or, length, length-set, set}
use lib.Seq.{get_or-set_other, get_or-set_same}
use native.Mathlib.Nat.{add-zero}
use native.Mathlib.Numerals.{add-one}
use native.Mathlib.Omega.{arith}
use Rattle.std.proofs.Common.{None, Option, Some}
use Rattle.std.specs.Option.{is_some}
use Rattle.meaning.specs.Lists.{any}
use Rattle.tokens.specs.Places.{part, print_of}
use Rattle.tokens.specs.Tokens.{Token, same_bytes}
use Rattle.tokens.proofs.Bytes.{differ, same_refl, same_true}
use Rattle.name_table.specs.Numbers.{number_found, number_from, number_of, repeats}
use Rattle.name_table.specs.Table.{Entry, Listed, entered, name_at, names_from}

-- ---- a different print is no match

pub print_differs : {text table : List ℕ} {j p : ℕ} (x : Token) → Entry text table j → p ≡ print_of x → (get_or table (3 * j + 2) 0 ≡ p → ⊥) →
    eqb (get_or table (3 * j + 2) 0) p ≡ same_bytes (name_at text table j) x
print_differs {text} {table} {j} {p} x e h n =
    ne_eqb (get_or table (3 * j + 2) 0) p n ∙ sym (differ (name_at text table j) x (λ d. n (e.print ∙ ap print_of d ∙ sym h)))

-- ---- a look-up: entry k is next

pub record Looking (text table : List ℕ) (base n : ℕ) (x : Token) (k : ℕ) : Type 0 where
  pub place : k ≤ n
  pub same : number_of (names_from text table base n) x ≡ number_from (suc k) (names_from text table (base + k) (n - k)) x

pub looking_starts : {text table : List ℕ} {base n : ℕ} {x : Token} → Looking text table base n x 0
unfolding number_of
looking_starts {text} {table} {base} {n} {x} =
    let e : base + 0 ≡ base = omega arith in
    let d : n - 0 ≡ n = omega arith in
    record { place = omega arith; same = rw (e, d) }

module _ {text table : List ℕ} {base n : ℕ} {x : Token} {k : ℕ} (l : Looking text table base n x k) where
  pub looking_ends : n ≤ k → None ≡ number_found (number_of (names_from text table base n) x)
  looking_ends h =
      let d : n - k ≡ 0 = omega arith in
      let e : number_of (names_from text table base n) x ≡ 0 = l.same ∙ rw d in
      rw e

  module _ (h : k < n) {b : Bool} (e : b ≡ same_bytes (name_at text table (base + k)) x) where
    cut : number_of (names_from text table base n) x ≡ cond b (suc k) (number_from (suc (suc k)) (names_from text table (suc (base + k)) (n - suc k)) x)
    cut = let d : n - k ≡ suc (n - suc k) = omega arith in l.same ∙ rw (d, e)

    pub looking_finds : b ≡ true → Some (k + 1) ≡ number_found (number_of (names_from text table base n) x)
    looking_finds t =
        let f : number_of (names_from text table base n) x ≡ suc k = cut ∙ rw t in
        rw (f, eqb-suc-zero k, add-one k)

    pub looking_on : b ≡ false → Looking text table base n x (k + 1)
    looking_on t =
        let d : base + (k + 1) ≡ suc (base + k) = omega arith in
        record { place = omega arith; same = cut ∙ rw (t, d, add-one k) }

pub listed_rest : {text table : List ℕ} {base n k : ℕ} → Listed text table base n → k < n → Listed text table (base + k + 1) (n - k - 1)
listed_rest {base = base} l h = record { room = omega (arith, l.room); each = λ i a b. l.each i (omega arith) (omega arith) }

-- ---- a name stands twice

same_sym : (s t : List ℕ) → same_bytes s t ≡ same_bytes t s
same_sym s t = go (same_bytes s t) refl
  where
    go : (b : Bool) → same_bytes s t ≡ b → same_bytes s t ≡ same_bytes t s
    go true e = let d = same_true s t e in rw d
    go false e = e ∙ sym (differ t s (λ d. let z : true ≡ false = sym (same_refl s) ∙ ap (same_bytes s) (sym d) ∙ e in let y : ◌≡◌ {A = ℕ} 0 1 = cc in omega arith))

number_any : (k : ℕ) (l : List Token) (x : Token) → any (same_bytes x) l ≡ not (eqb (number_from (suc k) l x) 0)
number_any k [] x = refl
number_any k (y ∷ l) x = rw (same_sym x y) (go (same_bytes y x) (number_any (suc k) l x))
  where
    go : (b : Bool) → any (same_bytes x) l ≡ not (eqb (number_from (suc (suc k)) l x) 0) →
        b || any (same_bytes x) l ≡ not (eqb (cond b (suc k) (number_from (suc (suc k)) l x)) 0)
    go true e = rw (eqb-suc-zero k)
    go false e = e

pub some_found : (n : ℕ) → not (eqb n 0) ≡ is_some (number_found n)
some_found n = go (eqb n 0)
  where
    go : (b : Bool) → not b ≡ is_some (cond b None (Some n))
    go true = refl
    go false = refl

pub record Repeating (text table : List ℕ) (base n k : ℕ) : Type 0 where
  pub place : k ≤ n
  pub same : repeats (names_from text table base n) ≡ repeats (names_from text table (base + k) (n - k))

pub repeating_starts : {text table : List ℕ} {base n : ℕ} → Repeating text table base n 0
repeating_starts {text} {table} {base} {n} =
    let e : base + 0 ≡ base = omega arith in
    let d : n - 0 ≡ n = omega arith in
    record { place = omega arith; same = rw (e, d) }

module _ {text table : List ℕ} {base n k : ℕ} (l : Repeating text table base n k) where
  pub repeating_ends : n ≤ k → false ≡ repeats (names_from text table base n)
  repeating_ends h = let d : n - k ≡ 0 = omega arith in sym (l.same ∙ rw d)

  -- m is the number of name k among those behind it
  module _ (h : k < n) {x : Token} {m : Option ℕ} (a : x ≡ name_at text table (base + k))
      (e : m ≡ number_found (number_of (names_from text table (base + k + 1) (n - k - 1)) x)) where
    split_off : repeats (names_from text table base n) ≡ is_some m || repeats (names_from text table (suc (base + k)) (n - suc k))
    unfolding number_of
    split_off =
        let d : n - k ≡ suc (n - suc k) = omega arith in
        let i : base + k + 1 ≡ suc (base + k) = omega arith in
        let j : n - k - 1 ≡ n - suc k = omega arith in
        l.same ∙ rw (d, e, i, j, a, number_any 0 (names_from text table (suc (base + k)) (n - suc k)) (name_at text table (base + k)))
        (ap (λ (b : Bool). b || repeats (names_from text table (suc (base + k)) (n - suc k)))
        (some_found (number_from 1 (names_from text table (suc (base + k)) (n - suc k)) (name_at text table (base + k)))))

    pub repeating_finds : is_some m ≡ true → true ≡ repeats (names_from text table base n)
    repeating_finds z = sym (split_off ∙ rw z)

    pub repeating_on : is_some m ≡ false → Repeating text table base n (k + 1)
    repeating_on z =
        let d : base + (k + 1) ≡ suc (base + k) = omega arith in
        record { place = omega arith; same = split_off ∙ rw (z, d, add-one k) }

-- ---- an entry more

module _ (text table : List ℕ) (j from to : ℕ) where
  abbrev after : List ℕ
  after = entered text table j from to

  other : (i w : ℕ) → (i ≡ j → ⊥) → w < 3 → get_or after (3 * i + w) 0 ≡ get_or table (3 * i + w) 0
  other i w n h =
      get_or-set_other (set (set table (3 * j) from) (3 * j + 1) to) (3 * j + 2) (3 * i + w) (print_of (part text from to)) 0 (λ e. n (omega arith))
      ∙ get_or-set_other (set table (3 * j) from) (3 * j + 1) (3 * i + w) to 0 (λ e. n (omega arith))
      ∙ get_or-set_other table (3 * j) (3 * i + w) from 0 (λ e. n (omega arith))

  other_from : (i : ℕ) → (i ≡ j → ⊥) → get_or after (3 * i) 0 ≡ get_or table (3 * i) 0
  other_from i n = rw add-zero at (other i 0 n (omega arith))

  name_kept : (i : ℕ) → (i ≡ j → ⊥) → name_at text after i ≡ name_at text table i
  name_kept i n = rw (other_from i n, other i 1 n (omega arith))

  entry_kept : (i : ℕ) → (i ≡ j → ⊥) → Entry text table i → Entry text after i
  entry_kept i n e =
      record {
        rises = rw (other_from i n, other i 1 n (omega arith)) e.rises;
        ends = rw (other i 1 n (omega arith)) e.ends;
        print = rw (other i 2 n (omega arith), other_from i n, other i 1 n (omega arith)) e.print;
      }

  pub names_kept : (n base : ℕ) → ((i : ℕ) → base ≤ i → i < base + n → i ≡ j → ⊥) → names_from text after base n ≡ names_from text table base n
  names_kept zero base h = refl
  names_kept (suc n) base h =
      rw (
        other_from base (h base (omega arith) (omega arith)),
        other base 1 (h base (omega arith) (omega arith)) (omega arith),
        names_kept n (suc base) (λ i a b. h i (omega arith) (omega arith)),
      )

  after_length : length after ≡ length table
  after_length = simp length-set

  -- a list that the entry is not in stays
  pub listed_kept : {base n : ℕ} → ((i : ℕ) → base ≤ i → i < base + n → i ≡ j → ⊥) → Listed text table base n → Listed text after base n
  listed_kept h l = record { room = rw after_length l.room; each = λ i a b. entry_kept i (h i a b) (l.each i a b) }

  module _ (fits : 3 * j + 2 < length table) where
    new_from : get_or after (3 * j) 0 ≡ from
    new_from =
        get_or-set_other (set (set table (3 * j) from) (3 * j + 1) to) (3 * j + 2) (3 * j) (print_of (part text from to)) 0 (λ e. omega arith)
        ∙ get_or-set_other (set table (3 * j) from) (3 * j + 1) (3 * j) to 0 (λ e. omega arith)
        ∙ get_or-set_same table (3 * j) from 0 (omega arith)

    new_to : get_or after (3 * j + 1) 0 ≡ to
    new_to =
        get_or-set_other (set (set table (3 * j) from) (3 * j + 1) to) (3 * j + 2) (3 * j + 1) (print_of (part text from to)) 0 (λ e. omega arith)
        ∙ get_or-set_same (set table (3 * j) from) (3 * j + 1) to 0 (simp length-set (omega arith))

    new_print : get_or after (3 * j + 2) 0 ≡ print_of (part text from to)
    new_print = get_or-set_same (set (set table (3 * j) from) (3 * j + 1) to) (3 * j + 2) (print_of (part text from to)) 0 (simp length-set (omega arith))

    new_name : name_at text after j ≡ part text from to
    new_name = rw (new_from, new_to)

    new_entry : from ≤ to → to ≤ length text → Entry text after j
    new_entry a b = record { rises = rw (new_from, new_to) a; ends = rw new_to b; print = rw (new_print, new_from, new_to) }

-- one name more at the end of a list
names_snoc : (text table : List ℕ) (n base : ℕ) → names_from text table base (suc n) ≡ names_from text table base n ++ (name_at text table (base + n) ∷ [])
names_snoc text table zero base = let e : base + 0 ≡ base = omega arith in rw e
names_snoc text table (suc n) base = let e : base + suc n ≡ suc base + n = omega arith in rw (e, names_snoc text table n (suc base))

module _ (text table : List ℕ) (base n from to : ℕ) (l : Listed text table base n) (fits : 3 * (base + n) + 2 < length table) where
  pub listed_more : from ≤ to → to ≤ length text → Listed text (entered text table (base + n) from to) base (suc n)
  listed_more a b =
      record {
        room = rw (after_length text table (base + n) from to) (omega arith);
        each = λ i p q. go i p q (eqb i (base + n)) refl;
      }
    where
      go : (i : ℕ) → base ≤ i → i < base + suc n → (c : Bool) → eqb i (base + n) ≡ c → Entry text (entered text table (base + n) from to) i
      go i p q true e = rw (eqb-true i (base + n) e) (new_entry text table (base + n) from to fits a b)
      go i p q false e = let d = eqb-false i (base + n) e in entry_kept text table (base + n) from to i d (l.each i p (omega arith))

  pub names_more : names_from text (entered text table (base + n) from to) base (suc n) ≡ names_from text table base n ++ (part text from to ∷ [])
  names_more =
      names_snoc text (entered text table (base + n) from to) n base
      ∙ rw (names_kept text table (base + n) from to n base (λ i a b e. omega arith), new_from text table (base + n) from to fits, new_to text table (base + n) from to fits)
