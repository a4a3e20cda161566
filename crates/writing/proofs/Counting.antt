-- The entries of an order from a place on, counted, and asked how deep they are. Assumes nothing.
use Prim.Native.Nat.{◌*◌, ◌+◌, ◌-◌, ◌<◌, ◌≤◌, suc, ℕ}
use mathlib.Core.Bool.{Bool, ◌||◌, cond, false, true}
use mathlib.Core.List.{List, [], ◌∷◌}
use mathlib.Core.Path.{◌∙◌, ◌≡◌, ap, refl, sym}
use lib.Dec.{leb, leb-suc-suc, ltb}
use lib.ListN.{drop, get_or, length, length-drop, take}
use lib.Seq.{take_all}
use Rattle.std.proofs.lemmas.List.{length-take}
use native.Mathlib.Omega.{arith}
use borrow.Author.Tests.{le-ltb, lt-ltb}
use Rattle.entries.proofs.Runs.{items_behind, items_first, items_front, items_none}
use Rattle.entries.specs.Entries.{Item, classes_at, depth_at, fields_at, item_at, items_in, items_of}
use Rattle.entries.specs.declared.Fields.{Fields}
use Rattle.meaning.specs.Limits.{most_classes, most_depth, most_records}
use Rattle.meaning.specs.Lists.{any}
use Rattle.words.proofs.Laws.{members_few}
use Rattle.words.specs.Members.{members}
use Rattle.words.specs.Rows.{class_words}
use Rattle.writing.specs.Written.{CountsEntry, Ordered, are_too_long, is_deep, records_in, where_any}

-- ---- an entry

pub rest_known : {w o : List ℕ} → Ordered w o → (i : ℕ) → Ordered w (take (length o - i) (drop i o))
rest_known {o = o} r i = record {
  items = items_front (items_behind r.items i) (length o - i);
  few = (let e = length-take (length o - i) (drop i o) in let f = length-drop i o in let g = r.few in omega arith);
}

module _ (w ds : List ℕ) (e : ℕ) where
  pub depth_here : (item_at w ds e).fields.depth ≡ depth_at w ds e
  unfolding item_at fields_at
  depth_here = go (ltb e most_records) _ _ refl refl
    where
      go : (b : Bool) (r c : Fields) {d : ℕ} → r.depth ≡ d → c.depth ≡ d → (cond b r c).depth ≡ d
      go true r c p q = p
      go false r c p q = q

  module _ {s : List ℕ} {n : ℕ} (p : s ≡ classes_at w e) (q : n ≡ length (members s)) where
    count_here : n ≡ length (item_at w ds e).classes
    unfolding item_at
    count_here = q ∙ ap (λ (t : List ℕ). length (members t)) p

    module _ {d : ℕ} (t : d ≡ depth_at w ds e) where
      -- no classes
      pub deep_own : n ≡ 0 → ltb most_depth d ≡ is_deep (item_at w ds e)
      deep_own z = rw (t, ← depth_here) (go (item_at w ds e).classes (item_at w ds e).fields.depth (sym count_here ∙ z))
        where
          go : (cs : List ℕ) (b : ℕ) → length cs ≡ 0 → ltb most_depth b ≡ ltb most_depth (where_any cs (suc b) b)
          go [] b h = refl
          go (c ∷ cs) b h = absurd (omega arith)

      pub deep_classes : (n ≡ 0 → ⊥) → leb most_depth d ≡ is_deep (item_at w ds e)
      deep_classes z = rw (t, ← depth_here) (go (item_at w ds e).classes (item_at w ds e).fields.depth (λ h. z (count_here ∙ h)))
        where
          go : (cs : List ℕ) (b : ℕ) → (length cs ≡ 0 → ⊥) → leb most_depth b ≡ ltb most_depth (where_any cs (suc b) b)
          go [] b h = absurd (h refl)
          go (c ∷ cs) b h = sym (leb-suc-suc most_depth b)

pub entry_counted : (w : List ℕ) (e : ℕ) {s : List ℕ} {n : ℕ} → s ≡ classes_at w e → n ≡ length (members s) → length s ≡ class_words →
    CountsEntry w e (1 + n)
entry_counted w e {s} {n} p q r = record {
  says = λ ds. omega (arith, count_here w ds e p q);
  few = omega (arith, members_few s);
}

-- ---- entry after entry

-- the items of the entries from place i on
abbrev pub items_from : List ℕ → List ℕ → List ℕ → ℕ → List Item
items_from w ds o i = items_in w ds o i (length o)

module _ (w ds o : List ℕ) where
  pub from_start : items_from w ds o 0 ≡ items_of w ds o
  from_start = ap (items_of w ds) (take_all (length o - 0) o (omega arith))

  pub from_first : (i : ℕ) {e : ℕ} → e ≡ get_or o i 0 → i < length o → items_from w ds o i ≡ item_at w ds e ∷ items_from w ds o (i + 1)
  from_first i p h = rw p (items_first w ds o i (length o) h (omega arith))

  pub from_none : (i : ℕ) → length o ≤ i → items_from w ds o i ≡ []
  from_none i h = items_none w ds o i (length o) h

-- n records are counted before place i
pub record Counting (w o : List ℕ) (i n : ℕ) : Type 0 where
  pub few : n ≤ (most_classes + 1) * i
  pub says : (ds : List ℕ) → n + records_in (items_from w ds o i) ≡ records_in (items_of w ds o)

pub counting_starts : (w o : List ℕ) → Counting w o 0 0
counting_starts w o = record { few = omega arith; says = λ ds. omega (arith, ap records_in (from_start w ds o)) }

module _ {w o : List ℕ} {i n : ℕ} (x : Counting w o i n) where
  pub counting_more : {e m : ℕ} → i < length o → e ≡ get_or o i 0 → CountsEntry w e m → Counting w o (i + 1) (n + m)
  counting_more h p q = record {
    few = omega (arith, x.few, q.few);
    says = λ ds. omega (arith, ap records_in (from_first w ds o i p h), q.says ds, x.says ds);
  }

  pub counting_ends : length o ≤ i → (ds : List ℕ) → n ≡ records_in (items_of w ds o)
  counting_ends h ds = omega (arith, ap records_in (from_none w ds o i h), x.says ds)

-- no entry before place i is deep
abbrev pub Passing : List ℕ → List ℕ → List ℕ → ℕ → Type 0
Passing w ds o i = any is_deep (items_from w ds o i) ≡ any is_deep (items_of w ds o)

module _ (w ds o : List ℕ) where
  pub passing_starts : Passing w ds o 0
  passing_starts = ap (any is_deep) (from_start w ds o)

  module _ {i : ℕ} (x : Passing w ds o i) where
    module _ {e : ℕ} {b : Bool} (h : i < length o) (p : e ≡ get_or o i 0) (q : b ≡ is_deep (item_at w ds e)) where
      told : (c : Bool) → b ≡ c → c || any is_deep (items_from w ds o (i + 1)) ≡ any is_deep (items_of w ds o)
      told c t = rw (← t, q) (ap (any is_deep) (sym (from_first w ds o i p h)) ∙ x)

      pub passing_found : b ≡ true → true ≡ any is_deep (items_of w ds o)
      passing_found t = told true t

      pub passing_more : b ≡ false → Passing w ds o (i + 1)
      passing_more t = told false t

    pub passing_ends : length o ≤ i → false ≡ any is_deep (items_of w ds o)
    passing_ends h = ap (any is_deep) (sym (from_none w ds o i h)) ∙ x

-- ---- too long

module _ {n : ℕ} (l : List Item) (e : n ≡ records_in l) where
  pub long_many : most_records < n → true ≡ are_too_long l
  unfolding are_too_long
  long_many h = rw (lt-ltb most_records (records_in l) (omega arith))

  pub long_deep : {b : Bool} → n ≤ most_records → b ≡ any is_deep l → b ≡ are_too_long l
  unfolding are_too_long
  long_deep h q = rw (le-ltb most_records (records_in l) (omega arith)) q
