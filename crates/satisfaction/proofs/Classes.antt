-- Laws of the sets of classes: with some facts left, what the sets hold and what these put in is what all put in; and what keeps them.
use Prim.Native.Nat.{◌*◌, ◌+◌, ◌≤◌, ℕ}
use mathlib.Core.Bool.{Bool, ◌&&◌, ◌||◌, and-false, and-true, false, or_assoc, or_comm, or-false, true}
use mathlib.Core.List.{List, [], ◌∷◌}
use mathlib.Core.Logic.{⊎_elim}
use mathlib.Core.Path.{◌∙◌, ◌≡◌, ap, refl, subst, sym}
use lib.Dec.{eqb}
use lib.ListN.{length}
use native.Mathlib.Omega.{arith}
use borrow.Author.Tests.{eqb-false, eqb-true}
use Rattle.frames.proofs.Frames.{only_none, only_span, only_then, row_before, row_behind}
use Rattle.frames.specs.Frames.{Cleared, Only, Span}
use Rattle.meaning.specs.Limits.{most_classes, most_individuals, work_size}
use Rattle.meaning.specs.Lists.{any}
use Rattle.meaning.specs.Model.{Fact, edge, fact_at, facts_of, individual_count, member, value}
use Rattle.meaning.specs.ModelCheck.{is_member}
use Rattle.meaning.specs.Records.{Name}
use Rattle.model.specs.Chain.{Readable, Stated}
use Rattle.satisfaction.proofs.Facts.{by_kind}
use Rattle.satisfaction.proofs.Rows.{none_in, put_in_lem, put_inside, put_only, put_size}
use Rattle.satisfaction.specs.Classes.{AllEntered, Interpreted, entered}
use Rattle.satisfaction.specs.Places.{class_place, classes_end, classes_of}
use Rattle.theory.proofs.Rules.{order}
use Rattle.words.specs.Rows.{class_words}
use Rattle.words.specs.Sets.{in_set}

-- a class that a set has a bit for, of an individual that has a set
abbrev Roomy : Fact → Type 0
Roomy (member a i) = Name most_classes a × Name most_individuals i
Roomy (edge r i j) = Unit {0}
Roomy (value f i v) = Unit {0}

roomy : {m : List ℕ} {k : ℕ} → Readable m → Stated m k → Roomy (fact_at m k)
roomy r s = by_kind s Roomy (λ e. let o = s.owner in (s.class e, (o.0, omega arith))) (λ _. tt) (λ _. tt)

-- with the facts l left, what the sets hold and what these put in is what all put in
pub record Entering (m w₀ w : List ℕ) (l : List Fact) : Type 0 where
  pub long : work_size ≤ length w
  pub only : Only (Span 0 classes_end) w₀ w
  pub left : (i a : ℕ) → Name (individual_count m) i → in_set (classes_of w i) a || any (is_member a i) l ≡ any (is_member a i) (facts_of m)

pub classes_fit : {m : List ℕ} (w : List ℕ) → Readable m → work_size ≤ length w → 0 + individual_count m * class_words ≤ length w
classes_fit w r h = omega (arith, r.individuals)

module _ {m w w₁ : List ℕ} (r : Readable m) (c : Cleared 0 (individual_count m * class_words) w w₁) where
  pub entering_starts : work_size ≤ length w → Entering m w₁ w₁ (facts_of m)
  entering_starts h = record {
    long = omega arith;
    only = only_none;
    left = λ i a k. rw (none_in class_words w₁ (class_place i) (λ j p q. c.zeros j (omega arith) (omega arith)) a);
  }

  pub entering_ends : {w₂ : List ℕ} → Entering m w₁ w₂ [] → AllEntered m w w₂
  entering_ends {w₂} t = record {
    classed = record { rows = λ i a n. sym (or-false (in_set (classes_of w₂ i) a)) ∙ t.left i a n };
    only = only_then (only_span c.only (omega arith) (omega (arith, r.individuals))) t.only;
  }

-- one fact more
module _ {m w₀ w : List ℕ} {l : List Fact} where
  entering_member : {c o : ℕ} → Roomy (member c o) → Entering m w₀ w (member c o ∷ l) → Entering m w₀ (entered w (member c o)) l
  entering_member {c} {o} f t = record {
    long = omega (arith, put_size class_words w (class_place o) c fits refl);
    only = let z = f.1 in put_inside class_words w (class_place o) c fits (omega arith) (omega arith) refl t.only;
    left = λ i a n. go i a n.0 (eqb i o) refl ∙ t.left i a n;
  }
    where
      fits : class_place o + class_words ≤ length w
      fits = omega arith

      other : (i : ℕ) → 1 ≤ i → (i ≡ o → ⊥) → classes_of (entered w (member c o)) i ≡ classes_of w i
      other i l d =
          let p = put_only class_words w (class_place o) c fits in
          ⊎_elim (λ q. row_before p class_words (class_place i) (omega arith)) (λ q. row_behind p class_words (class_place i) (omega arith)) (order i o)

      go : (i a : ℕ) → 1 ≤ i → (b : Bool) → eqb i o ≡ b →
          in_set (classes_of (entered w (member c o)) i) a || any (is_member a i) l ≡ in_set (classes_of w i) a || ((eqb a c && b) || any (is_member a i) l)
      go i a n true e =
          let d = eqb-true i o e in
          let p = put_in_lem class_words w (class_place o) c fits (let z = f.0 in (z.0, omega arith)) a in
          rw (d, p, and-true (eqb a c), or_comm (eqb a c) (in_set (classes_of w o) a), or_assoc (in_set (classes_of w o) a) (eqb a c) (any (is_member a o) l))
      go i a n false e = rw (other i n (eqb-false i o e), and-false (eqb a c))

  entering_one : (x : Fact) → Roomy x → Entering m w₀ w (x ∷ l) → Entering m w₀ (entered w x) l
  entering_one (member c o) f t = entering_member f t
  entering_one (edge r o j) f t = record { long = t.long; only = t.only; left = t.left }
  entering_one (value g o v) f t = record { long = t.long; only = t.only; left = t.left }

pub entering_on : {m w₀ w w' : List ℕ} {k : ℕ} → Readable m → Stated m k → w' ≡ entered w (fact_at m k) → (l : List Fact) → Entering m w₀ w (fact_at m k ∷ l) →
    Entering m w₀ w' l
entering_on {m} {w₀} {k = k} r s e l t = subst (λ (x : List ℕ). Entering m w₀ x l) (sym e) (entering_one (fact_at m k) (roomy r s) t)

-- ---- what keeps them

pub entered_all : {m w w' : List ℕ} → work_size ≤ length w → Readable m → AllEntered m w w' → Interpreted m w'
entered_all h r c = record { long = omega arith; readable = r; classed = c.classed }

module _ {m w w' : List ℕ} where
  -- they stand in front of what is changed
  pub interpreted_kept : {from to : ℕ} → classes_end ≤ from → Only (Span from to) w w' → Interpreted m w → Interpreted m w'
  interpreted_kept l o c = record {
    long = omega arith;
    readable = c.readable;
    classed = record { rows = λ i a n. ap (λ (x : List ℕ). in_set x a) (row_before o class_words (class_place i) (omega arith)) ∙ c.classed.rows i a n };
  }
