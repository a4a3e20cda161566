-- Tests as facts: a test that holds is an equation with true, and `simp tests` turns it into the fact and back. Names, links,
-- how long a chain of links can be, and distinct records.
use Prim.Native.Nat.{◌+◌, ◌<◌, ◌≤◌, suc, zero, ℕ}
use mathlib.Core.Bool.{Bool, ◌&&◌, ◌||◌, and-eq-true_iff, cond, false, or-true, true}
use mathlib.Core.List.{List, [], ◌∷◌}
use mathlib.Core.Logic.{◌↔◌, inl, inr}
use mathlib.Core.Path.{◌∙◌, ◌≡◌, ap, refl}
use lib.Dec.{eqb, leb, ltb}
use lib.ListN.{length}
use native.Mathlib.Omega.{arith}
use borrow.Author.Tests.{eq-eqb, eqb-false, eqb-true, le-leb, leb-true, ne_eqb}
use Rattle.meaning.specs.Lists.{any}
use Rattle.meaning.specs.Records.{Enough, Name, Onward, falling, is_onward}

-- ---- tests

pub leb_iff : (a b : ℕ) → (leb a b ≡ true) ↔ (a ≤ b)
leb_iff a b = (leb-true a b, le-leb a b)

pub eqb_iff : (a b : ℕ) → (eqb a b ≡ true) ↔ (a ≡ b)
eqb_iff a b = (eqb-true a b, eq-eqb a b)

pub ruleset bounds = (and-eq-true_iff, leb_iff, eqb_iff)

-- by cases on a test, of what it chooses; and so of two choices by one test, where a fact of the one gives a fact of the other
pub split : {A : Type 0} (P : A → Type 0) (b : Bool) {s t : A} → (b ≡ true → P s) → (b ≡ false → P t) → P (cond b s t)
split P true f g = f refl
split P false f g = g refl

pub choose : {A B : Type 0} (Q : B → Type 0) (P : A → Type 0) (b : Bool) {x y : B} {s t : A} →
    (b ≡ true → Q x → P s) → (b ≡ false → Q y → P t) → Q (cond b x y) → P (cond b s t)
choose Q P true f g = f refl
choose Q P false f g = g refl

-- no refusal: the test before it holds, and there is none after it
pub passed : (n : ℕ) (b : Bool) (x : ℕ) → (cond b x (suc n) ≡ 0) ↔ ((b ≡ true) × (x ≡ 0))
passed n true x = (λ h. (refl, h), λ h. h.1)
passed n false x = (λ h. absurd (omega arith), λ h. let z : ◌≡◌ {A = ℕ} 0 1 = cc h.0 in omega arith)

-- ---- names and links

pub is_onward_iff : (last k next : ℕ) → (is_onward last k next ≡ true) ↔ Onward last k next
is_onward_iff last k next = (go (eqb next 0) refl, back)
  where
    go : (b : Bool) → eqb next 0 ≡ b → b || (ltb k next && leb next last) ≡ true → Onward last k next
    go true e h = inl (simp bounds at e)
    go false e h = inr (simp bounds at h)

    back : Onward last k next → is_onward last k next ≡ true
    back (inl e) = rw e
    back (inr h) = let f : ltb k next && leb next last ≡ true = simp bounds h in rw f (or-true (eqb next 0))

pub ruleset tests = (bounds, is_onward_iff)

pub onward_le : (last k next : ℕ) → Onward last k next → next ≤ last
onward_le last k next (inl e) = omega arith
onward_le last k next (inr h) = h.1

pub falling_le : (last k : ℕ) → falling last k ≤ last
falling_le last zero = omega arith
falling_le last (suc j) = omega arith

pub falls : (last k next : ℕ) → Name last k → Onward last k next → falling last next < falling last k
falls last zero next n h = absurd (omega arith)
falls last (suc j) next n (inl e) = rw e (omega arith)
falls last (suc j) zero n (inr h) = omega arith
falls last (suc j) (suc i) n (inr h) = omega arith

pub enough_end : (last k : ℕ) → Enough last 0 k → k ≡ 0
enough_end last zero h = refl
enough_end last (suc j) h = absurd (omega arith)

-- ---- distinct records

-- none twice, and none of them the header or past the last
pub data Once (last : ℕ) : List ℕ → Type 0 where
  once_none : Once last []
  once_more : {k : ℕ} {seen : List ℕ} → Name last k → any (eqb k) seen ≡ false → Once last seen → Once last (k ∷ seen)

-- how many of 1 to n are among the records
marks : ℕ → List ℕ → ℕ
marks zero seen = 0
marks (suc n) seen = cond (any (eqb (suc n)) seen) 1 0 + marks n seen

marks_none : (n : ℕ) → marks n [] ≡ 0
unfolding marks
marks_none zero = refl
marks_none (suc n) = rw (marks_none n)

marks_le : (n : ℕ) (seen : List ℕ) → marks n seen ≤ n
unfolding marks
marks_le zero seen = omega arith
marks_le (suc n) seen =
    let h = marks_le n seen in
    split (λ (m : ℕ). m + marks n seen ≤ suc n) (any (eqb (suc n)) seen) (λ _. omega arith) (λ _. omega arith)

marks_above : (n k : ℕ) (seen : List ℕ) → n < k → marks n (k ∷ seen) ≡ marks n seen
unfolding marks
marks_above zero k seen h = refl
marks_above (suc n) k seen h = rw (ne_eqb (suc n) k (λ e. omega arith), marks_above n k seen (omega arith))

marks_more : (n k : ℕ) (seen : List ℕ) → Name n k → any (eqb k) seen ≡ false → marks n (k ∷ seen) ≡ suc (marks n seen)
unfolding marks
marks_more zero k seen h new = absurd (omega arith)
marks_more (suc n) k seen h new = go (eqb (suc n) k) refl (λ l. marks_more n k seen (h.0, l) new)
  where
    go : (b : Bool) → eqb (suc n) k ≡ b → (k ≤ n → marks n (k ∷ seen) ≡ suc (marks n seen)) →
        cond (b || any (eqb (suc n)) seen) 1 0 + marks n (k ∷ seen) ≡ suc (cond (any (eqb (suc n)) seen) 1 0 + marks n seen)
    go true e more =
        let d = eqb-true (suc n) k e in
        rw (ap (λ (j : ℕ). any (eqb j) seen) d ∙ new, marks_above n k seen (omega arith)) (omega arith)
    go false e more = let d = eqb-false (suc n) k e in rw (more (omega arith)) (omega arith)

-- so there are at most as many as the last record's number
pub length-once-≤ : {last : ℕ} {seen : List ℕ} → Once last seen → length seen ≤ last
length-once-≤ {last} {seen} h = omega (arith, marks_le last seen, all h)
  where
    all : {seen : List ℕ} → Once last seen → marks last seen ≡ length seen
    all once_none = marks_none last
    all (once_more {k = k} {seen = seen} n new h) = rw (marks_more last k seen n new, all h)
