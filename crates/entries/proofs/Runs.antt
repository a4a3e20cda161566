-- Runs of entries compared, one entry after another. Assumes nothing.
use Prim.Native.Nat.{◌*◌, ◌+◌, ◌-◌, ◌<◌, ◌≤◌, suc, zero, ℕ}
use mathlib.Core.Bool.{Bool, cond, false, true}
use mathlib.Core.List.{List, [], ◌++◌, ◌∷◌, map, map-append}
use mathlib.Core.Path.{◌∙◌, ◌≡◌, ap, ap₂, refl, subst, sym}
use lib.Dec.{ltb}
use lib.ListN.{drop, get_or, length, length-drop, take}
use lib.Seq.{drop-cons, drop-drop, get_or-drop, take-add}
use native.Mathlib.Omega.{arith}
use borrow.Author.Tests.{lt-ltb}
use Rattle.std.proofs.lemmas.Map.Lookups.{exact_bytes}
use Rattle.std.proofs.lemmas.Bool.Decides.{nat_tests}
use Rattle.std.specs.Ordering.{MatchOrdering, is_ne, ordering_then}
use Rattle.std.specs.declared.cmp.Ordering.{Ordering}
use Rattle.std.specs.declared.cmp.Ordering.TheVariants.{Equal, Greater, Less}
use Rattle.entries.proofs.Ordering.{beginnings, depth_same}
use Rattle.entries.specs.Entries.{Beside, Comparable, ComparesClasses, ComparesNext, HasItem, HasItems, Steps, class_fields, classes_at, depth_at, fields_at, item_at, items_in, items_of, listed}
use Rattle.entries.specs.Entries.{rank_of, rest_fields, run_fields, run_key, sibling_fields}
use Rattle.entries.specs.Order.{Continues, order_of}
use Rattle.entries.specs.declared.Fields.{Fields}
use Rattle.meaning.specs.Limits.{most_records}
use Rattle.words.specs.Members.{members}

pub has_item : {w o : List ℕ} → HasItems w o → (j : ℕ) {e : ℕ} → e ≡ get_or o j 0 → HasItem e w
has_item h j e = record { known = subst (λ (n : ℕ). n < 2 * most_records) (sym e) (h.known j); long = h.long }

pub items_behind : {w o : List ℕ} → HasItems w o → (i : ℕ) → HasItems w (drop i o)
items_behind {w} {o} h i = record { long = h.long; known = λ j. rw get_or-drop (h.known (i + j)) }

pub items_front : {w o : List ℕ} → HasItems w o → (n : ℕ) → HasItems w (take n o)
items_front {w} {o} h n = record { long = h.long; known = λ j. known o n j h.known }
  where
    known : (l : List ℕ) (n j : ℕ) → ((i : ℕ) → get_or l i 0 < 2 * most_records) → get_or (take n l) j 0 < 2 * most_records
    known l zero j h = omega arith
    known [] (suc n) j h = omega arith
    known (x ∷ l) (suc n) zero h = h 0
    known (x ∷ l) (suc n) (suc j) h = known l n j (λ i. h (suc i))

-- ---- the entries from one place on

module _ (w ds o : List ℕ) where
  pub items_first : (i b : ℕ) → i < b → b ≤ length o → items_in w ds o i b ≡ item_at w ds (get_or o i 0) ∷ items_in w ds o (i + 1) b
  items_first i b h g =
      let e : b - i ≡ suc (b - (i + 1)) = omega arith in
      let f : suc i ≡ i + 1 = omega arith in
      rw (e, drop-cons o i 0 (omega arith), f)

  pub items_none : (i b : ℕ) → b ≤ i → items_in w ds o i b ≡ []
  items_none i b h = let e : b - i ≡ 0 = omega arith in rw e

  pub items_split : (a b c : ℕ) → a ≤ b → b ≤ c → items_in w ds o a c ≡ items_in w ds o a b ++ items_in w ds o b c
  items_split a b c h g =
      let e : c - a ≡ (b - a) + (c - b) = omega arith in
      let f : a + (b - a) ≡ b = omega arith in
      ap (λ (n : ℕ). map (item_at w ds) (take n (drop a o))) e
      ∙ ap (map (item_at w ds)) (take-add (b - a) (c - b) (drop a o) ∙ ap (λ (l : List ℕ). take (b - a) (drop a o) ++ take (c - b) l) (drop-drop (b - a) a o ∙ ap (λ (n : ℕ). drop n o) f))
      ∙ map-append (item_at w ds) (take (b - a) (drop a o)) (take (c - b) (drop b o))

  pub item_depth : (e : ℕ) → (item_at w ds e).fields.depth ≡ depth_at w ds e
  unfolding item_at fields_at
  item_depth e = go (ltb e most_records) _ _ refl refl
    where
      go : {d : ℕ} (b : Bool) (r c : Fields) → r.depth ≡ d → c.depth ≡ d → (cond b r c).depth ≡ d
      go true r c p q = p
      go false r c p q = q

module _ (w ds : List ℕ) where
  kind_later : (e : ℕ) → 1 < (fields_at w ds e).kind
  unfolding fields_at
  kind_later e = go (ltb e most_records) _ _ (omega arith) (omega arith)
    where
      go : (b : Bool) (r c : Fields) → 1 < r.kind → 1 < c.kind → 1 < (cond b r c).kind
      go true r c h g = h
      go false r c h g = g

  fields_here : (e : ℕ) → (item_at w ds e).fields ≡ fields_at w ds e
  unfolding item_at
  fields_here e = refl

  classes_here : (e : ℕ) → (item_at w ds e).classes ≡ members (classes_at w e)
  unfolding item_at
  classes_here e = refl

  -- ---- of entries of which there is one

  run_first : (x : List ℕ) → 0 < length x → run_fields (items_of w ds x) ≡ listed (fields_at w ds (get_or x 0 0)) (rest_fields (items_of w ds x))
  run_first [] h = absurd (omega arith)
  run_first (e ∷ x) h = ap (λ (f : Fields). listed f (rest_fields (items_of w ds (e ∷ x)))) (fields_here e)

  rest_first : (x : List ℕ) → 0 < length x →
      rest_fields (items_of w ds x) ≡ class_fields (suc (fields_at w ds (get_or x 0 0)).depth) (members (classes_at w (get_or x 0 0))) (run_fields (items_of w ds (drop 1 x)))
  rest_first [] h = absurd (omega arith)
  rest_first (e ∷ x) h = ap₂ (λ (f : Fields) (cs : List ℕ). class_fields (suc f.depth) cs (run_fields (items_of w ds x))) (fields_here e) (classes_here e)

  key_first : (x : List ℕ) → 0 < length x → run_key (items_of w ds x) ≡ sibling_fields (fields_at w ds (get_or x 0 0)) (rest_fields (items_of w ds x))
  key_first [] h = absurd (omega arith)
  key_first (e ∷ x) h = ap (λ (f : Fields). sibling_fields f (rest_fields (items_of w ds (e ∷ x)))) (fields_here e)

  goes_on : (y : ℕ) (x : List ℕ) → Continues true (run_fields (items_of w ds (y ∷ x)))
  goes_on y x = rw (fields_here y) (kind_later y)

  -- whether a run goes on tells what its records begin with
  continues : (x : List ℕ) {more : Bool} → more ≡ ltb 0 (length x) → Continues more (run_fields (items_of w ds x))
  continues [] e = subst (λ (m : Bool). Continues m []) (sym e) refl
  continues (y ∷ x) e = subst (λ (m : Bool). Continues m (run_fields (items_of w ds (y ∷ x)))) (sym (e ∙ lt-ltb 0 (length (y ∷ x)) (omega arith))) (goes_on y x)

  more_behind : (x : List ℕ) → ltb 1 (length x) ≡ ltb 0 (length (drop 1 x))
  more_behind [] = refl
  more_behind (e ∷ x) = grind (arith, nat_tests)

  -- ---- the next entries' own records

  pub next_ends : (x y : List ℕ) → length x ≡ 0 → length y ≡ 0 → ComparesNext w ds x y Equal
  next_ends [] [] h g = record { says = refl; onward = λ e k. absurd (omega arith); back = λ e k. absurd (omega arith) }
  next_ends [] (f ∷ y) h g = absurd (omega arith)
  next_ends (e ∷ x) y h g = absurd (omega arith)

  pub next_shorter : (x y : List ℕ) → length x ≡ 0 → 0 < length y → ComparesNext w ds x y Less
  next_shorter [] [] h g = absurd (omega arith)
  next_shorter [] (f ∷ y) h g = record { says = refl; onward = λ e. absurd (cc); back = λ e. absurd (cc) }
  next_shorter (e ∷ x) y h g = absurd (omega arith)

  pub next_longer : (x y : List ℕ) → 0 < length x → length y ≡ 0 → ComparesNext w ds x y Greater
  next_longer [] y h g = absurd (omega arith)
  next_longer (e ∷ x) [] h g = record { says = refl; onward = λ e. absurd (cc); back = λ e. absurd (cc) }
  next_longer (e ∷ x) (f ∷ y) h g = absurd (omega arith)

  module _ (x y : List ℕ) where
    pub next_fields : {f g : Fields} {r : Ordering} → 0 < length x → 0 < length y → f ≡ fields_at w ds (get_or x 0 0) → g ≡ fields_at w ds (get_or y 0 0) →
        r ≡ order_of (listed f []) (listed g []) → ComparesNext w ds x y r
    next_fields {f} {g} {r} h k p q e = record {
      says =
          ap₂ order_of (run_first x h) (run_first y k)
          ∙ beginnings (listed a []) (listed b []) (rest_fields (items_of w ds x)) (rest_fields (items_of w ds y)) refl
          ∙ ap (λ (z : Ordering). ordering_then z (order_of (rest_fields (items_of w ds x)) (rest_fields (items_of w ds y)))) (sym told);
      onward = λ s l. (k, depth_same a b a.kind b.kind (exact_bytes (listed a []) (listed b []) (sym told ∙ s)));
      back = λ s l. h;
    }
      where
        a : Fields
        a = fields_at w ds (get_or x 0 0)

        b : Fields
        b = fields_at w ds (get_or y 0 0)

        told : r ≡ order_of (listed a []) (listed b [])
        told = e ∙ ap₂ (λ (u v : Fields). order_of (listed u []) (listed v [])) p q

  -- ---- the classes of two entries, and what follows them

  module _ (x y : List ℕ) (k : Comparable w x y) (level : Beside w ds x y) {s t : List ℕ} {more other : Bool} {r : Ordering} (p : s ≡ classes_at w (get_or x 0 0))
      (q : t ≡ classes_at w (get_or y 0 0)) (m : more ≡ ltb 1 (length x)) (n : other ≡ ltb 1 (length y)) (told : ComparesClasses s t more other r) where
    pub classes_told : order_of (rest_fields (items_of w ds x)) (rest_fields (items_of w ds y))
        ≡ ordering_then r (order_of (run_fields (items_of w ds (drop 1 x))) (run_fields (items_of w ds (drop 1 y))))
    classes_told =
        let l = run_fields (items_of w ds (drop 1 x)) in
        let l' = run_fields (items_of w ds (drop 1 y)) in
        let e = (fields_at w ds (get_or x 0 0)).depth in
        ap₂ order_of (rest_first x k.some) (rest_first y k.others)
        ∙ ap (λ (z : ℕ). order_of (class_fields (suc e) (members (classes_at w (get_or x 0 0))) l) (class_fields (suc z) (members (classes_at w (get_or y 0 0))) l')) (sym level)
        ∙ ap₂ (λ (u v : List ℕ). order_of (class_fields (suc e) (members u) l) (class_fields (suc e) (members v) l')) (sym p) (sym q)
        ∙ told.says (suc e) l l' (continues (drop 1 x) (m ∙ more_behind x)) (continues (drop 1 y) (n ∙ more_behind y))

    pub stepped : {r' : Ordering} → MatchOrdering r (r' ≡ Less) (ComparesNext w ds (drop 1 x) (drop 1 y) r') (r' ≡ Greater) → Steps w ds x y r'
    stepped {r'} h = go r refl h
      where
        go : (o : Ordering) → r ≡ o → MatchOrdering o (r' ≡ Less) (ComparesNext w ds (drop 1 x) (drop 1 y) r') (r' ≡ Greater) → Steps w ds x y r'
        go Less e h = record { says = rw h (classes_told ∙ rw e); onward = λ s. absurd (cc); back = λ s. absurd (cc) }
        go Equal e h = record { says = classes_told ∙ rw e h.says; onward = h.onward; back = h.back }
        go Greater e h = record { says = rw h (classes_told ∙ rw e); onward = λ s. absurd (cc); back = λ s. absurd (cc) }

  -- ---- one step after another: from i on what is left compares as the whole

  pub record Along (x y : List ℕ) (i : ℕ) : Type 0 where
    pub onward : 0 < length (drop i x) → (0 < length (drop i y)) × Beside w ds (drop i x) (drop i y)
    pub back : 0 < length (drop i y) → 0 < length (drop i x)
    pub says : order_of (rest_fields (items_of w ds x)) (rest_fields (items_of w ds y)) ≡ order_of (rest_fields (items_of w ds (drop i x))) (rest_fields (items_of w ds (drop i y)))

  pub along_starts : (x y : List ℕ) → Comparable w x y → Beside w ds x y → Along x y 0
  along_starts x y k l = record { onward = λ h. (k.others, l); back = λ h. k.some; says = refl }

  module _ {x y : List ℕ} {i : ℕ} (a : Along x y i) where
    pub along_comparable : HasItems w x → HasItems w y → i < length x → Comparable w (drop i x) (drop i y) × Beside w ds (drop i x) (drop i y)
    along_comparable h g k =
        let s : 0 < length (drop i x) = simp length-drop (omega arith) in
        let n = a.onward s in
        (record { first = items_behind h i; second = items_behind g i; some = s; others = n.0 }, n.1)

    pub along_inside : i < length x → i ≤ length y
    along_inside k =
        let s : 0 < length (drop i x) = simp length-drop (omega arith) in
        let n = (a.onward s).0 in
        let e = length-drop i y in omega arith

    pub along_told : {r : Ordering} → Steps w ds (drop i x) (drop i y) r → is_ne r ≡ true → r ≡ order_of (rest_fields (items_of w ds x)) (rest_fields (items_of w ds y))
    along_told {r} s e = sym (a.says ∙ s.says ∙ other r _ e)
      where
        other : (o p : Ordering) → is_ne o ≡ true → ordering_then o p ≡ o
        other Less p e = refl
        other Equal p e = absurd (cc)
        other Greater p e = refl

    pub along_more : {r : Ordering} → Steps w ds (drop i x) (drop i y) r → is_ne r ≡ false → Along x y (i + 1)
    along_more {r} s e =
        let z = same r e in
        let f = drop-drop 1 i x in
        let g = drop-drop 1 i y in
        let o = s.onward z in
        let b = s.back z in
        let q = rw z at (a.says ∙ s.says) in
        record { onward = rw (f, g) at o; back = rw (f, g) at b; says = rw (f, g) at q }
      where
        same : (o : Ordering) → is_ne o ≡ false → o ≡ Equal
        same Less e = absurd (cc)
        same Equal e = refl
        same Greater e = absurd (cc)

    pub along_ends : length x ≤ i → Equal ≡ order_of (rest_fields (items_of w ds x)) (rest_fields (items_of w ds y))
    along_ends h = sym (a.says ∙ ends (drop i x) (drop i y) (let e = length-drop i x in omega arith) a.back)
      where
        ends : (s t : List ℕ) → length s ≡ 0 → (0 < length t → 0 < length s) → order_of (rest_fields (items_of w ds s)) (rest_fields (items_of w ds t)) ≡ Equal
        ends [] [] e f = refl
        ends [] (b ∷ t) e f = absurd (let g = f (omega arith) in omega arith)
        ends (c ∷ s) t e f = absurd (omega arith)

  -- ---- two runs of one individual's

  module _ (x y : List ℕ) (k : Comparable w x y) {f g : Fields} {r : Ordering} (p : f ≡ fields_at w ds (get_or x 0 0)) (q : g ≡ fields_at w ds (get_or y 0 0))
      (e : r ≡ order_of (sibling_fields f []) (sibling_fields g [])) where
    abbrev a : Fields
    a = fields_at w ds (get_or x 0 0)

    abbrev b : Fields
    b = fields_at w ds (get_or y 0 0)

    first_told : r ≡ order_of (sibling_fields a []) (sibling_fields b [])
    first_told = e ∙ ap₂ (λ (u v : Fields). order_of (sibling_fields u []) (sibling_fields v [])) p q

    keys_told : order_of (run_key (items_of w ds x)) (run_key (items_of w ds y)) ≡ ordering_then r (order_of (rest_fields (items_of w ds x)) (rest_fields (items_of w ds y)))
    keys_told =
        ap₂ order_of (key_first x k.some) (key_first y k.others)
        ∙ beginnings (sibling_fields a []) (sibling_fields b []) (rest_fields (items_of w ds x)) (rest_fields (items_of w ds y)) refl
        ∙ ap (λ (z : Ordering). ordering_then z (order_of (rest_fields (items_of w ds x)) (rest_fields (items_of w ds y)))) (sym first_told)

    pub runs_beside : r ≡ Equal → Beside w ds x y
    runs_beside s = depth_same a b (rank_of a.kind) (rank_of b.kind) (exact_bytes (sibling_fields a []) (sibling_fields b []) (sym first_told ∙ s))

    pub runs_told : {z : Ordering} → MatchOrdering r (z ≡ Less) (z ≡ order_of (rest_fields (items_of w ds x)) (rest_fields (items_of w ds y))) (z ≡ Greater) →
        z ≡ order_of (run_key (items_of w ds x)) (run_key (items_of w ds y))
    runs_told {z} h = go r refl h ∙ sym keys_told
      where
        t : Ordering
        t = order_of (rest_fields (items_of w ds x)) (rest_fields (items_of w ds y))

        go : (o : Ordering) → r ≡ o → MatchOrdering o (z ≡ Less) (z ≡ t) (z ≡ Greater) → z ≡ ordering_then r t
        go Less e h = rw e h
        go Equal e h = rw e h
        go Greater e h = rw e h
