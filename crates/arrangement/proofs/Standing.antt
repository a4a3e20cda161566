-- The entries that are listed from the last one on are, read as items, the individuals as they stand. Assumes nothing.
use Prim.Native.Nat.{◌+◌, ◌-◌, ◌<◌, ◌≤◌, suc, zero, ℕ}
use mathlib.Core.Bool.{true}
use mathlib.Core.List.{List, [], ◌++◌, ◌∷◌, append_assoc, append-nil, map, map-append}
use mathlib.Core.Logic.{◌⊎◌, inl, inr}
use mathlib.Core.Path.{◌∙◌, ◌≡◌, ap, ap₂, refl, subst, sym}
use lib.Dec.{T, eqb, eqb→eq, lt→ltb, ltb}
use lib.ListN.{get_or, length, length-append, replicate}
use native.Mathlib.Omega.{arith}
use borrow.Author.Tests.{eq-eqb, le-ltb, lt-ltb, ne_eqb}
use Rattle.arrangement.specs.Listing.{entries_of, listing}
use Rattle.arrangement.specs.Runs.{class_key, items_below, listed_item, role_item}
use Rattle.arrangement.specs.Steps.{Depths}
use Rattle.entries.specs.Entries.{Item, classes_at, depth_at, fields_at, item_at, owner_at}
use Rattle.layout.proofs.Filling.{held_range, own_held, parts}
use Rattle.layout.specs.Tables.{ConstraintsStand, Held, RowStands, RowsStand, constraint_at, held_at, held_below, held_by, holder_at, parent_at, set_at}
use Rattle.layout.specs.declared.Tables.{Tables}
use Rattle.meaning.specs.Countermodel.{size}
use Rattle.meaning.specs.Intervals.{Constraint}
use Rattle.meaning.specs.Limits.{most_records}
use Rattle.meaning.specs.Lists.{All, any, cons, nil}
use Rattle.meaning.specs.NormalForm.{Successors, none, successor}
use Rattle.meaning.specs.Splitting.{constraints_below}
use Rattle.meaning.specs.Stated.{is_below}
use Rattle.meaning.specs.Vocabulary.{Vocabulary}
use Rattle.spelling.proofs.Rising.{Same, rising_same, same_trans, sorted_rising, sorted_same}
use Rattle.spelling.specs.Order.{is_before, sorted}
use Rattle.spelling.specs.Ordered.{Rising}
use Rattle.theory.proofs.Rules.{any_in, any_mono, any_out, eqb_of, is_true, or_left, order, same_test}
use Rattle.words.proofs.Laws.{in_listed, in_zeros, listed_in, members_rising}
use Rattle.words.proofs.Lists as words
use Rattle.words.specs.Members.{members}
use Rattle.words.specs.Rows.{class_words}
use Rattle.words.specs.Sets.{in_set}

-- ---- the entries by structure

-- of constraints, the first of which is m
abbrev constraint_entries : ℕ → List Constraint → List ℕ
constraint_entries m [] = []
constraint_entries m (s ∷ l) = (most_records + m) ∷ constraint_entries (suc m) l

-- of individuals, the first row of which is n, and the first constraint m
abbrev entries_below : Successors → ℕ → ℕ → List ℕ
entries_below none n m = []
entries_below (successor r k under next) n m =
    n ∷ (constraint_entries m k.constraints ++ (entries_below under (suc n) (m + length k.constraints)
    ++ entries_below next (suc n + size under) (m + length k.constraints + length (constraints_below under))))

-- ---- they are listed

module _ (w : List ℕ) where
  -- the entries of the first i individuals and m constraints, in front of others
  abbrev first_entries : ℕ → ℕ → List ℕ → List ℕ
  first_entries i m rest = listing (i + m) w i m rest

  -- the constraints before m are of the first n individuals
  abbrev Earlier : ℕ → ℕ → Type 0
  Earlier n m = (j : ℕ) → j < m → holder_at w j ≤ n

  earlier_more : {n n' : ℕ} (m m' : ℕ) → n ≤ n' → Earlier n m → ((j : ℕ) → m ≤ j → j < m' → holder_at w j ≤ n') → Earlier n' m'
  earlier_more {n} {n'} m m' h e f j l = go (order j m)
    where
      go : (j < m) ⊎ (m ≤ j) → holder_at w j ≤ n'
      go (inl a) = let b = e j a in omega arith
      go (inr a) = f j a l

  entries_at : (i j m k : ℕ) (rest : List ℕ) → i ≡ j → m ≡ k → first_entries i m rest ≡ first_entries j k rest
  entries_at i j m k rest p q = ap₂ (λ (i m : ℕ). first_entries i m rest) p q

  last_constraint : (i m : ℕ) (rest : List ℕ) → holder_at w m ≡ suc i → first_entries (suc i) (suc m) rest ≡ first_entries (suc i) m ((most_records + m) ∷ rest)
  last_constraint i m rest h =
      let e : suc i + suc m ≡ suc (suc i + m) = omega arith in
      ap (λ (most : ℕ). listing most w (suc i) (suc m) rest) e ∙ rw (eq-eqb (holder_at w m) (suc i) h)

  last_individual : (i m : ℕ) (rest : List ℕ) → Earlier i m → first_entries (suc i) m rest ≡ first_entries i m (i ∷ rest)
  last_individual i zero rest h =
      let e : suc i + 0 ≡ suc (i + 0) = omega arith in
      ap (λ (most : ℕ). listing most w (suc i) 0 rest) e
  last_individual i (suc m) rest h =
      let e : suc i + suc m ≡ suc (i + suc m) = omega arith in
      let b = h m (omega arith) in
      ap (λ (most : ℕ). listing most w (suc i) (suc m) rest) e ∙ rw (ne_eqb (holder_at w m) (suc i) (λ z. omega arith))

  last_constraints : (i m : ℕ) (l : List Constraint) (rest : List ℕ) → ((j : ℕ) → m ≤ j → j < m + length l → holder_at w j ≡ suc i) →
      first_entries (suc i) (m + length l) rest ≡ first_entries (suc i) m (constraint_entries m l ++ rest)
  last_constraints i m [] rest h = entries_at (suc i) (suc i) (m + 0) m rest refl (omega arith)
  last_constraints i m (s ∷ l) rest h =
      entries_at (suc i) (suc i) (m + suc (length l)) (suc m + length l) rest refl (omega arith)
      ∙ last_constraints i (suc m) l rest (λ j p q. h j (omega arith) (omega arith))
      ∙ last_constraint i m (constraint_entries (suc m) l ++ rest) (h m (omega arith) (omega arith))

  entries_listed : (ks : Successors) (n m : ℕ) (rest : List ℕ) → ConstraintsStand w m (held_below ks (suc n)) → Earlier n m →
      first_entries (n + size ks) (m + length (constraints_below ks)) rest ≡ first_entries n m (entries_below ks n m ++ rest)
  entries_listed none n m rest s h = entries_at (n + 0) n (m + 0) m rest (omega arith) (omega arith)
  entries_listed (successor r k under next) n m rest s h =
      let a = parts w m k.constraints under next (suc n) s in
      let c = length-append k.constraints (constraints_below under ++ constraints_below next) in
      let d = length-append (constraints_below under) (constraints_below next) in
      let o = m + length k.constraints in
      let p = o + length (constraints_below under) in
      let own = own_held w (suc n) k.constraints m a.0 in
      let e : suc (suc n) + size under ≡ suc (suc n + size under) = omega arith in
      let before-under : Earlier (suc n) o = earlier_more m o (omega arith) h (λ j x y. let z = own j x y in omega arith) in
      let range = held_range w under (suc (suc n)) o a.1 in
      let before-next : Earlier (suc n + size under) p = earlier_more o p (omega arith) before-under (λ j x y. let z = range j x y in omega arith) in
      let behind = entries_below next (suc n + size under) p in
      let below = entries_below under (suc n) o in
      let constraints = constraint_entries m k.constraints in
      entries_at (n + size (successor r k under next)) (suc n + size under + size next) (m + length (constraints_below (successor r k under next)))
      (p + length (constraints_below next)) rest (omega arith) (omega arith)
      ∙ entries_listed next (suc n + size under) p rest (subst (λ (i : ℕ). ConstraintsStand w p (held_below next i)) e a.2) before-next
      ∙ entries_listed under (suc n) o (behind ++ rest) a.1 before-under
      ∙ last_constraints n m k.constraints (below ++ (behind ++ rest)) own
      ∙ last_individual n m (constraints ++ (below ++ (behind ++ rest))) h
      ∙ ap (λ (l : List ℕ). first_entries n m (n ∷ l)) (simp append_assoc)

-- ---- the classes

keys_above : (j k : ℕ) (l : List ℕ) → j ≤ k → words.Rising k l → All (λ c. T (is_before (class_key j) (class_key c))) l
keys_above j k [] h r = nil
keys_above j k (c ∷ l) h r = cons {x = c} (or_left (ltb j c) _ (lt→ltb j c (omega arith))) (keys_above j c l (omega arith) r.1)

rising_keys : (k : ℕ) (l : List ℕ) → words.Rising k l → Rising class_key l
rising_keys k [] r = tt
rising_keys k (c ∷ l) r = (keys_above c c l (omega arith) r.1, rising_keys c l r.1)

-- the members of a set that has a list's numbers
members_sorted : (s cs : List ℕ) → ((b : ℕ) → in_set s b ≡ any (λ c. eqb c b) cs) → members s ≡ sorted class_key cs
members_sorted s cs h =
    rising_same class_key apart (members s) (sorted class_key cs) (rising_keys 0 (members s) (members_rising s)) (sorted_rising class_key apart cs)
    (same_trans {m = cs} same (sorted_same class_key apart cs))
  where
    apart : (x y : ℕ) → class_key x ≡ class_key y → x ≡ y
    apart x y e = cc

    same : Same (members s) cs
    same z = (
      λ i. any_mono (λ c t. sym (eqb→eq c z t)) (any_out (λ c. eqb c z) cs (is_true (sym (h z) ∙ listed_in s z i))),
      λ i. in_listed s z (h z ∙ same_test (any (λ c. eqb c z) cs) true (λ _. tt) (λ _. any_in (λ c. eqb c z) (any_mono (λ c e. eqb_of c z (sym e)) i))),
    )

-- ---- they are read

module _ (w ds : List ℕ) where
  constraint_read : (x m : ℕ) (s : Constraint) → held_at w m ≡ record { individual = x; constraint = s } →
      item_at w ds (most_records + m) ≡ listed_item (get_or ds x 0) s
  unfolding item_at fields_at classes_at depth_at owner_at
  constraint_read x m s h =
      let e : most_records + m - most_records ≡ m = omega arith in
      let holder : holder_at w m ≡ x = ap (λ (y : Held). y.individual) h in
      let held : constraint_at w m ≡ s = ap (λ (y : Held). y.constraint) h in
      rw (le-ltb (most_records + m) most_records (omega arith), e, holder, held, members_sorted (replicate class_words 0) [] (in_zeros class_words))

  constraints_read : (x m : ℕ) (l : List Constraint) → ConstraintsStand w m (held_by x l) →
      map (item_at w ds) (constraint_entries m l) ≡ map (listed_item (get_or ds x 0)) l
  constraints_read x m [] h = refl
  constraints_read x m (s ∷ l) h = ap₂ (λ (y : Item) (k : List Item). y ∷ k) (constraint_read x m s h.0) (constraints_read x (suc m) l h.1)

  module _ (K : Vocabulary) (alone : (a b : ℕ) → is_below K a b ≡ eqb a b) where
    individual_read : (i n r : ℕ) (cs : List ℕ) → n < most_records → RowStands K w n i r cs → item_at w ds n ≡ role_item (get_or ds i 0) r (sorted class_key cs)
    unfolding item_at fields_at classes_at depth_at owner_at
    individual_read i n r cs h s = rw (lt-ltb n most_records h, s.parent, s.role, members_sorted (set_at w n) cs (λ b. s.classes b ∙ simp alone))

    module _ (top : ℕ) (few : top ≤ most_records) (deep : Depths w top ds) where
      -- the conjuncts of row n's individual
      one_deeper : (i n : ℕ) → n < top → parent_at w n ≡ i → get_or ds (suc n) 0 ≡ suc (get_or ds i 0)
      one_deeper i n h e =
          let next : n + 1 ≡ suc n = omega arith in
          let depth : get_or ds (n + 1) 0 ≡ get_or ds i 0 + 1 = deep.later n h ∙ ap (λ (y : ℕ). get_or ds y 0 + 1) e in
          ap (λ (y : ℕ). get_or ds y 0) (sym next) ∙ omega arith

      entries_read : (ks : Successors) (i n m : ℕ) → n + size ks ≤ top → RowsStand K w ks i n → ConstraintsStand w m (held_below ks (suc n)) →
          map (item_at w ds) (entries_below ks n m) ≡ items_below (get_or ds i 0) ks
      entries_read none i n m h r s = refl
      entries_read (successor q k under next) i n m h r s =
          let a = parts w m k.constraints under next (suc n) s in
          let o = m + length k.constraints in
          let p = o + length (constraints_below under) in
          let e : suc (suc n) + size under ≡ suc (suc n + size under) = omega arith in
          let below = entries_below under (suc n) o in
          let behind = entries_below next (suc n + size under) p in
          rw (← one_deeper i n (omega arith) r.0.parent)
          (ap₂ (λ (y : Item) (l : List Item). y ∷ l) (individual_read i n q k.classes (omega arith) r.0)
          (map-append (item_at w ds) (constraint_entries m k.constraints) (below ++ behind)
          ∙ ap₂ ◌++◌ (constraints_read (suc n) m k.constraints a.0)
          (map-append (item_at w ds) below behind
          ∙ ap₂ ◌++◌ (entries_read under (suc n) (suc n) o (omega arith) r.1 a.1)
          (entries_read next i (suc n + size under) p (omega arith) r.2 (subst (λ (y : ℕ). ConstraintsStand w p (held_below next y)) e a.2)))))

-- where no class is below another, the tables hold the stated classes, and the entries are the individuals' items
pub entries_stand : (K : Vocabulary) (w ds : List ℕ) (t : Tables) (ks : Successors) → ((a b : ℕ) → is_below K a b ≡ eqb a b) →
    RowsStand K w ks 0 0 → ConstraintsStand w 0 (held_below ks 1) → t.individuals ≡ size ks → t.constraints ≡ length (constraints_below ks) →
    t.individuals ≤ most_records → Depths w t.individuals ds → map (item_at w ds) (entries_of w t) ≡ items_below 0 ks
entries_stand K w ds t ks alone r s p q few deep =
    ap (map (item_at w ds))
    (entries_at w t.individuals (0 + size ks) t.constraints (0 + length (constraints_below ks)) [] (omega arith) (omega arith)
    ∙ entries_listed w ks 0 0 [] s (λ j h. absurd (omega arith))
    ∙ append-nil (entries_below ks 0 0))
    ∙ entries_read w ds K alone t.individuals few deep ks 0 0 0 (omega arith) r s
    ∙ ap (λ (d : ℕ). items_below d ks) deep.first
