-- The tables' entries taken one after another from the last one on, each put in front of the order. Assumes nothing.
use Prim.Native.Nat.{◌*◌, ◌+◌, ◌-◌, ◌<◌, ◌≤◌, suc, zero, ℕ}
use mathlib.Core.Bool.{Bool, cond, false, true}
use mathlib.Core.List.{List, [], ◌∷◌, map}
use mathlib.Core.Path.{◌∙◌, ◌≡◌, ap, refl, subst, sym}
use lib.Dec.{T, eqb, ltb}
use lib.ListN.{drop, get_or, length, length-set, set}
use lib.Seq.{drop-set-lt, get_or-set_other, get_or-set_same}
use native.Mathlib.Omega.{arith}
use borrow.Author.Tests.{eqb-false, eqb-true}
use Rattle.arrangement.proofs.Settling.{items_all}
use Rattle.arrangement.specs.Insertion.{arranged, insert_item}
use Rattle.arrangement.specs.Listing.{Arrangeable, Arranged, HasLast, entries_of, last_entry, listing, owns_last}
use Rattle.arrangement.specs.Steps.{Ready, Settled}
use Rattle.entries.proofs.Runs.{items_none}
use Rattle.entries.specs.Entries.{item_at, items_in}
use Rattle.layout.specs.Tables.{holder_at}
use Rattle.layout.specs.declared.Tables.{Tables}
use Rattle.meaning.specs.Limits.{most_records}

-- ---- the last entry

module _ (w : List ℕ) (i m : ℕ) where
  pub owns_none : m ≤ 0 → ltb 0 m ≡ owns_last w m i
  owns_none h = go m h
    where
      go : (m : ℕ) → m ≤ 0 → ltb 0 m ≡ owns_last w m i
      go zero h = refl
      go (suc m) h = absurd (omega arith)

  pub owns_told : {h : ℕ} → 0 < m → h ≡ holder_at w (m - 1) → eqb h i ≡ owns_last w m i
  owns_told g e = go m g e
    where
      go : {h : ℕ} (m : ℕ) → 0 < m → h ≡ holder_at w (m - 1) → eqb h i ≡ owns_last w m i
      go zero g e = absurd (omega arith)
      go (suc m) g e = let z : suc m - 1 ≡ m = omega arith in ap (λ (h : ℕ). eqb h i) (e ∙ ap (holder_at w) z)

  pub owns_some : owns_last w m i ≡ true → 0 < m
  owns_some e = go m e
    where
      go : (m : ℕ) → owns_last w m i ≡ true → 0 < m
      go zero e = absurd (let z : T false = subst T (sym e) tt in z)
      go (suc m) e = omega arith

  pub last_constraint : {b : Bool} → b ≡ owns_last w m i → b ≡ true → most_records + (m - 1) ≡ last_entry w i m
  last_constraint e f = rw (sym e ∙ f)

  pub last_individual : {b : Bool} → b ≡ owns_last w m i → b ≡ false → i - 1 ≡ last_entry w i m
  last_individual e f = rw (sym e ∙ f)

  pub last_known : HasLast i m w → last_entry w i m < 2 * most_records
  last_known g = go (owns_last w m i) refl
    where
      go : (b : Bool) → owns_last w m i ≡ b → cond b (most_records + (m - 1)) (i - 1) < 2 * most_records
      go true e = let k = g.constraints in let h = owns_some e in omega arith
      go false e = let k = g.individuals in omega arith

-- what is left when it is taken: a constraint less, or an individual
taken_constraint : (w : List ℕ) (i m : ℕ) (rest : List ℕ) → (i ≡ 0 → ⊥) → owns_last w m i ≡ true →
    listing (i + m) w i m rest ≡ listing (i + (m - 1)) w i (m - 1) ((most_records + (m - 1)) ∷ rest)
taken_constraint w zero m rest n e = absurd (n refl)
taken_constraint w (suc i) zero rest n e = absurd (let z : T false = subst T (sym e) tt in z)
taken_constraint w (suc i) (suc m) rest n e =
    let z : suc i + suc m ≡ suc (suc i + m) = omega arith in
    let y : suc m - 1 ≡ m = omega arith in
    ap (λ (f : ℕ). listing f w (suc i) (suc m) rest) z
    ∙ ap (λ (b : Bool). cond b (listing (suc i + m) w (suc i) m ((most_records + m) ∷ rest)) (listing (suc i + m) w i (suc m) (i ∷ rest))) e
    ∙ ap (λ (k : ℕ). listing (suc i + k) w (suc i) k ((most_records + k) ∷ rest)) (sym y)

taken_individual : (w : List ℕ) (i m : ℕ) (rest : List ℕ) → (i ≡ 0 → ⊥) → owns_last w m i ≡ false → listing (i + m) w i m rest ≡ listing ((i - 1) + m) w (i - 1) m ((i - 1) ∷ rest)
taken_individual w zero m rest n e = absurd (n refl)
taken_individual w (suc i) zero rest n e =
    let y : suc i - 1 ≡ i = omega arith in
    let z : suc i + 0 ≡ suc (i + 0) = omega arith in
    ap (λ (f : ℕ). listing f w (suc i) 0 rest) z ∙ ap (λ (k : ℕ). listing (k + 0) w k 0 (k ∷ rest)) (sym y)
taken_individual w (suc i) (suc m) rest n e =
    let y : suc i - 1 ≡ i = omega arith in
    let z : suc i + suc m ≡ suc (suc i + m) = omega arith in
    let x : suc i + m ≡ i + suc m = omega arith in
    ap (λ (f : ℕ). listing f w (suc i) (suc m) rest) z
    ∙ ap (λ (b : Bool). cond b (listing (suc i + m) w (suc i) m ((most_records + m) ∷ rest)) (listing (suc i + m) w i (suc m) (i ∷ rest))) e
    ∙ ap (λ (f : ℕ). listing f w i (suc m) (i ∷ rest)) x
    ∙ ap (λ (k : ℕ). listing (k + suc m) w k (suc m) (k ∷ rest)) (sym y)

listing_none : (f : ℕ) (w : List ℕ) (m : ℕ) (rest : List ℕ) → listing f w 0 m rest ≡ rest
listing_none zero w m rest = refl
listing_none (suc f) w m rest = refl

-- ---- those that are taken stand in the order, arranged

pub record Emptied (w ds : List ℕ) (n k : ℕ) (o₀ : List ℕ) (i m top : ℕ) (o : List ℕ) : Type 0 where
  pub room : i + m ≤ top
  pub within : top ≤ length o
  pub same : length o ≡ length o₀
  pub known : (j : ℕ) → get_or o j 0 < 2 * most_records
  pub taken : List ℕ
  pub left : listing (i + m) w i m taken ≡ listing (n + k) w n k []
  pub items : items_in w ds o top (length o) ≡ arranged (map (item_at w ds) taken)

module _ {w ds : List ℕ} {t : Tables} {o₀ : List ℕ} (g : Arrangeable w t o₀) where
  pub emptied_starts : Emptied w ds t.individuals t.constraints o₀ t.individuals t.constraints (length o₀) o₀
  emptied_starts = record {
    room = g.room;
    within = omega arith;
    same = refl;
    known = g.items.known;
    taken = [];
    left = refl;
    items = items_none w ds o₀ (length o₀) (length o₀) (omega arith);
  }

  module _ {i m top : ℕ} {o : List ℕ} (x : Emptied w ds t.individuals t.constraints o₀ i m top o) where
    pub emptied_last : (i ≡ 0 → ⊥) → HasLast i m w
    emptied_last n =
        let r = x.room in
        let h = x.within in
        let s = x.same in
        let f = g.few in
        record { long = g.items.long; some = n; individuals = omega arith; constraints = omega arith }

    module _ (n : i ≡ 0 → ⊥) {e : ℕ} (p : e ≡ last_entry w i m) where
      last_at : (b : Bool) → owns_last w m i ≡ b → last_entry w i m ≡ cond b (most_records + (m - 1)) (i - 1)
      last_at b q = ap (λ (c : Bool). cond c (most_records + (m - 1)) (i - 1)) q

      -- an entry behind the individuals' is the constraint's
      owned : most_records ≤ e → (b : Bool) → owns_last w m i ≡ b → owns_last w m i ≡ true
      owned h true q = q
      owned h false q = absurd (let l = last_at false q in let k = (emptied_last n).individuals in omega arith)

      pub emptied_some : most_records ≤ e → 0 < m
      emptied_some h = owns_some w i m (owned h (owns_last w m i) refl)

      below_top : top - 1 < length o
      below_top = let r = x.room in let h = x.within in omega arith

      set_known : (j : ℕ) → get_or (set o (top - 1) e) j 0 < 2 * most_records
      set_known j = go (eqb j (top - 1)) refl
        where
          go : (b : Bool) → eqb j (top - 1) ≡ b → get_or (set o (top - 1) e) j 0 < 2 * most_records
          go true f =
              let z = eqb-true j (top - 1) f in
              let k = last_known w i m (emptied_last n) in
              let l : get_or (set o (top - 1) e) j 0 ≡ e = ap (λ (y : ℕ). get_or (set o (top - 1) e) y 0) z ∙ get_or-set_same o (top - 1) e 0 below_top in
              omega arith
          go false f = let l = get_or-set_other o (top - 1) j e 0 (eqb-false j (top - 1) f) in let k = x.known j in omega arith

      pub emptied_ready : Ready w (set o (top - 1) e) (top - 1)
      emptied_ready =
          let l = length-set o (top - 1) e in
          let b = below_top in
          let s = x.same in
          let f = g.few in
          record { items = record { long = g.items.long; known = set_known }; inside = omega arith; few = omega arith }

      module _ {o' : List ℕ} {r : ℕ} (y : Settled w ds (top - 1) (set o (top - 1) e) o' r) where
        placed : items_in w ds o' r (length o') ≡ arranged (map (item_at w ds) (e ∷ x.taken))
        placed =
            y.items
            ∙ ap (λ (k : ℕ). insert_item (item_at w ds k) (items_in w ds (set o (top - 1) e) (top - 1 + 1) (length (set o (top - 1) e)))) (get_or-set_same o (top - 1) e 0 below_top)
            ∙ ap (insert_item (item_at w ds e))
            (items_all w ds (set o (top - 1) e) (top - 1 + 1)
            ∙ ap (map (item_at w ds)) (drop-set-lt (top - 1 + 1) o (top - 1) e (omega arith) ∙ ap (λ (k : ℕ). drop k o) back)
            ∙ sym (items_all w ds o top) ∙ x.items)
          where
            back : top - 1 + 1 ≡ top
            back = let r = x.room in omega arith

        size : length o' ≡ length o₀
        size = y.same ∙ length-set o (top - 1) e ∙ x.same

        pub emptied_individual : e < most_records → Emptied w ds t.individuals t.constraints o₀ (i - 1) m r o'
        emptied_individual h = record {
          room = (let r = x.room in let l = y.low in omega arith);
          within = y.high;
          same = size;
          known = y.known;
          taken = e ∷ x.taken;
          left = go (owns_last w m i) refl;
          items = placed;
        }
          where
            go : (b : Bool) → owns_last w m i ≡ b → listing (i - 1 + m) w (i - 1) m (e ∷ x.taken) ≡ entries_of w t
            go true q = absurd (let l = last_at true q in omega arith)
            go false q =
                ap (λ (k : ℕ). listing (i - 1 + m) w (i - 1) m (k ∷ x.taken)) (p ∙ last_at false q)
                ∙ sym (taken_individual w i m x.taken n q) ∙ x.left

        pub emptied_constraint : most_records ≤ e → Emptied w ds t.individuals t.constraints o₀ i (m - 1) r o'
        emptied_constraint h =
            let q = owned h (owns_last w m i) refl in
            record {
              room = (let r = x.room in let l = y.low in let s = emptied_some h in omega arith);
              within = y.high;
              same = size;
              known = y.known;
              taken = e ∷ x.taken;
              left =
                  ap (λ (k : ℕ). listing (i + (m - 1)) w i (m - 1) (k ∷ x.taken)) (p ∙ last_at true q)
                  ∙ sym (taken_constraint w i m x.taken n q) ∙ x.left;
              items = placed;
            }

    pub emptied_ends : i ≡ 0 → Arranged w ds t o₀ o top
    emptied_ends z = record {
      items =
          x.items
          ∙ ap (λ (l : List ℕ). arranged (map (item_at w ds) l))
          (sym (listing_none (i + m) w m x.taken) ∙ ap (λ (k : ℕ). listing (i + m) w k m x.taken) (sym z) ∙ x.left);
      within = x.within;
      same = x.same;
      known = x.known;
    }
