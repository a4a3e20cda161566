-- Laws of the lists, filled from the last row to the first.
use Prim.Native.Nat.{◌-◌, ◌<◌, ◌≤◌, suc, ℕ}
use mathlib.Core.List.{List}
use mathlib.Core.Logic.{◌⊎◌, inl, inr}
use mathlib.Core.Path.{◌∙◌, ◌≡◌, ap, refl, subst, sym}
use lib.ListN.{length}
use native.Mathlib.Omega.{arith}
use Rattle.carriers.proofs.Links.{beside_kept, linked_beside, linked_size, linked_slot, linked_under, lower_few, slot_kept}
use Rattle.carriers.proofs.Links.{under_kept}
use mathlib.Core.Bool.{Bool, false, true}
use lib.Dec.{eqb}
use borrow.Author.Tests.{eqb-false, eqb-true}
use Rattle.carriers.specs.Carriers.{Carrier, HasCarrier, UpTo, beside_of, carriers_end, linked, slot_of, under_of}
use Rattle.layout.specs.Nesting.{Nested}
use Rattle.layout.specs.Tables.{Standing, parent_at}
use Rattle.layout.specs.declared.Tables.{Tables}
use Rattle.meaning.specs.Limits.{most_records}
use Rattle.theory.proofs.Rules.{order}

eq_cases : {A : Type 0} (m n : ℕ) → (m ≡ n → A) → ((m ≡ n → ⊥) → A) → A
eq_cases {A} m n f g = go (eqb m n) refl
  where
    go : (b : Bool) → eqb m n ≡ b → A
    go true e = f (eqb-true m n e)
    go false e = g (eqb-false m n e)

-- the rows from k on are listed, and no other
pub record Linking (c w : List ℕ) (n k : ℕ) : Type 0 where
  pub within : k ≤ n
  pub room : carriers_end ≤ length c
  pub few : (x : ℕ) → x ≤ n → slot_of c x ≤ 16
  pub child : (x : ℕ) → x ≤ n → (under_of c x ≡ 0 → ⊥) → (k < under_of c x) × Carrier c w n x (under_of c x)
  pub first : (j : ℕ) → k ≤ j → j < n → (slot_of c (suc j) ≡ 0 → ⊥) → UpTo j (under_of c (parent_at w j))
  pub sibling : (j : ℕ) → k ≤ j → j < n → (slot_of c (suc j) ≡ 0 → ⊥) → (beside_of c (suc j) ≡ 0 → ⊥) →
      (suc j < beside_of c (suc j)) × Carrier c w n (parent_at w j) (beside_of c (suc j))
  pub next : (i j : ℕ) → k ≤ i → i < j → j < n → (slot_of c (suc i) ≡ 0 → ⊥) → (slot_of c (suc j) ≡ 0 → ⊥) → parent_at w i ≡ parent_at w j →
      UpTo j (beside_of c (suc i))

-- row j, whose individual is suc j, after those behind it
module _ {c w : List ℕ} {n j : ℕ} (l : Linking c w n (suc j)) where
  -- a row from j on is j, or one of those behind it
  either : {A : ℕ → Type 0} → A j → ((i : ℕ) → j < i → A i) → (i : ℕ) → j ≤ i → A i
  either {A} here on i h = go (order j i)
    where
      go : (j < i) ⊎ (i ≤ j) → A i
      go (inl a) = on i a
      go (inr a) = let e : j ≡ i = omega arith in subst A e here

  -- it goes to the front of its parent's list
  module _ {p : ℕ} (most : n ≤ most_records) (up : (i : ℕ) → i < n → parent_at w i ≤ i) (parent : p ≡ parent_at w j)
      (some : slot_of c (suc j) ≡ 0 → ⊥) where
    abbrev c' : List ℕ
    c' = linked p (suc j) c

    before : p ≤ j
    before = omega (arith, up j l.within)

    parent_has : HasCarrier p c
    parent_has = (omega (arith, before, l.within), l.room)

    own_has : HasCarrier (suc j) c
    own_has = (omega (arith, l.within), l.room)

    -- the slots from its own on stay
    slot_on : (x : ℕ) → j < x → x ≤ n → slot_of c' x ≡ slot_of c x
    slot_on x h b = slot_kept c p (suc j) parent_has own_has x (omega arith) (λ e. omega (arith, before))

    -- so do the links behind it
    beside_on : (i : ℕ) → j < i → i < n → beside_of c' (suc i) ≡ beside_of c (suc i)
    beside_on i h b = beside_kept c p (suc j) parent_has own_has (suc i) (omega arith) (λ e. omega arith)

    noted_before : (i : ℕ) → j < i → i < n → (slot_of c' (suc i) ≡ 0 → ⊥) → slot_of c (suc i) ≡ 0 → ⊥
    noted_before i h b d e = d (slot_on (suc i) (omega arith) b ∙ e)

    carrier_on : {x y : ℕ} → suc j < y → Carrier c w n x y → Carrier c' w n x y
    carrier_on {x} {y} h a = record {
      inside = a.inside;
      parent = a.parent;
      noted = λ e. a.noted (sym (slot_on y (omega arith) (omega (arith, a.inside))) ∙ e);
    }

    here : under_of c' p ≡ suc j
    here = linked_under c p (suc j) parent_has own_has

    few_on : (x : ℕ) → x ≤ n → slot_of c' x ≤ 16
    few_on x h = eq_cases x p
        (λ e.
        let a = l.few p (omega (arith, before, l.within)) in
        let b = lower_few (slot_of c p) (slot_of c (suc j)) 16 a (l.few (suc j) l.within) in
        omega (arith, ap (slot_of c') e ∙ linked_slot c p (suc j) parent_has own_has))
        (λ e. let a = slot_kept c p (suc j) parent_has own_has x (omega arith) e in omega (arith, l.few x h))

    own_carrier : Carrier c' w n p (suc j)
    own_carrier = record {
      inside = l.within;
      parent = sym parent;
      noted = λ e. some (sym (slot_on (suc j) (omega arith) l.within) ∙ e);
    }

    child_on : (x : ℕ) → x ≤ n → (under_of c' x ≡ 0 → ⊥) → (j < under_of c' x) × Carrier c' w n x (under_of c' x)
    child_on x h d = eq_cases x p
        (λ e. rw (e, here) (omega arith, own_carrier))
        (λ e.
        let b = under_kept c p (suc j) parent_has own_has x (omega arith) e in
        let a = l.child x h (λ f. d (b ∙ f)) in
        rw b (omega arith, carrier_on a.0 a.1))

    -- its parent's list starts with it, and so before whatever is behind it
    starts : (i : ℕ) → j ≤ i → parent_at w i ≡ p → UpTo i (under_of c' (parent_at w i))
    starts i h e = rw (e, here) (record { some = λ f. omega arith; within = omega arith })

    first_on : (i : ℕ) → j < i → i < n → (slot_of c' (suc i) ≡ 0 → ⊥) → UpTo i (under_of c' (parent_at w i))
    first_on i h b d = eq_cases (parent_at w i) p
        (λ e. starts i (omega arith) e)
        (λ e.
        let a = under_kept c p (suc j) parent_has own_has (parent_at w i) (omega (arith, up i b)) e in
        rw a (l.first i h b (noted_before i h b d)))

    -- what was the parent's list comes after it
    front : beside_of c' (suc j) ≡ under_of c p
    front = linked_beside c p (suc j) parent_has own_has

    sibling_here : j < n → (slot_of c' (suc j) ≡ 0 → ⊥) → (beside_of c' (suc j) ≡ 0 → ⊥) →
        (suc j < beside_of c' (suc j)) × Carrier c' w n (parent_at w j) (beside_of c' (suc j))
    sibling_here b d e =
        let a = l.child p (omega (arith, before)) (λ f. e (front ∙ f)) in
        rw (front, ← parent) (a.0, carrier_on a.0 a.1)

    sibling_on : (i : ℕ) → j < i → i < n → (slot_of c' (suc i) ≡ 0 → ⊥) → (beside_of c' (suc i) ≡ 0 → ⊥) →
        (suc i < beside_of c' (suc i)) × Carrier c' w n (parent_at w i) (beside_of c' (suc i))
    sibling_on i h b d e =
        let a = l.sibling i h b (noted_before i h b d) (λ f. e (beside_on i h b ∙ f)) in
        rw (beside_on i h b) (a.0, carrier_on (omega arith) a.1)

    next_here : (m : ℕ) → j < m → m < n → (slot_of c' (suc j) ≡ 0 → ⊥) → (slot_of c' (suc m) ≡ 0 → ⊥) → parent_at w j ≡ parent_at w m →
        UpTo m (beside_of c' (suc j))
    next_here m a b d e f = rw (front, parent, f) (l.first m a b (noted_before m a b e))

    next_on : (i m : ℕ) → j < i → i < m → m < n → (slot_of c' (suc i) ≡ 0 → ⊥) → (slot_of c' (suc m) ≡ 0 → ⊥) →
        parent_at w i ≡ parent_at w m → UpTo m (beside_of c' (suc i))
    next_on i m h a b d e f =
        rw (beside_on i h (omega arith)) (l.next i m h a b (noted_before i h (omega arith) d) (noted_before m (omega arith) b e) f)

    linking_on : Linking c' w n j
    linking_on = record {
      within = omega (arith, l.within);
      room = omega (arith, linked_size c p (suc j) parent_has own_has, l.room);
      few = few_on;
      child = child_on;
      first = either (λ b d. starts j (omega arith) (sym parent)) first_on;
      sibling = either sibling_here sibling_on;
      next = λ i m. either (next_here m) (λ i. next_on i m) i;
    }

-- the individual k, by what was read of it
module _ {c w : List ℕ} {n k s : ℕ} (more : 0 < k) (l : Linking c w n k) (read : s ≡ slot_of c k) where
  row : k ≡ suc (k - 1)
  row = omega arith

  behind : Linking c w n (suc (k - 1))
  behind = subst (λ (i : ℕ). Linking c w n i) row l

  own : s ≡ slot_of c (suc (k - 1))
  own = read ∙ ap (slot_of c) row

  pub linking_some : {c' : List ℕ} {p : ℕ} {t : Tables} → Standing w t → Nested w t → n ≡ t.individuals → (s ≡ 0 → ⊥) →
      p ≡ parent_at w (k - 1) → c' ≡ linked p k c → Linking c' w n (k - 1)
  linking_some {c'} {p} {t} a b m d e f =
      subst (λ (x : List ℕ). Linking x w n (k - 1)) (sym (f ∙ ap (λ (i : ℕ). linked p i c) row))
      (linking_on behind (omega (arith, a.individuals)) (λ i h. b.before i (omega arith)) e (λ g. d (own ∙ g)))
