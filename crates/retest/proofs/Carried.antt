-- Laws of the walk over an individual's list of carriers, one after another.
use Prim.Native.Nat.{◌<◌, ◌≤◌, pred, suc, ℕ}
use mathlib.Core.Bool.{Bool, ◌&&◌, cond, false, not, true}
use mathlib.Core.List.{List}
use mathlib.Core.Logic.{◌⊎◌, inl, inr, ⊎_elim}
use mathlib.Core.Path.{◌∙◌, ◌≡◌, ap, refl, subst, sym}
use native.Mathlib.Omega.{arith}
use borrow.Author.Tests.{eq-eqb, eqb-false, eqb-true, ne_eqb}
use lib.Bits.{bit_or}
use lib.Dec.{eqb, eqb→eq}
use Rattle.carriers.specs.Carriers.{Carrier, beside_of, named, slot_of, under_of}
use Rattle.std.specs.Prelude.{Option, None, Some, unwrap_or}
use Rattle.layout.specs.Tables.{parent_at, role_at}
use Rattle.layout.specs.declared.Tables.{Tables}
use Rattle.meaning.specs.Intervals.{Constraint}
use Rattle.meaning.specs.Records.{falling}
use Rattle.policy.specs.Terms.{conjuncts_at}
use Rattle.retest.proofs.Masks.{agrees_left, agrees_right}
use Rattle.retest.proofs.Successors.{below_on}
use Rattle.retest.specs.Memory.{Below, TellsCarried, TellsRow}
use Rattle.retest.specs.Reasons.{Agrees, Choice, has_carried, is_carried}
use Rattle.subsumption.specs.Tests.{holds_at}
use Rattle.retest.specs.declared.Reason.{Reason}
use Rattle.theory.proofs.Counting.{none_below, some_below}
use Rattle.theory.proofs.Links.{falls, split}
use Rattle.theory.proofs.Rules.{is_true, order}

abbrev passing : (ℕ → Constraint) → List ℕ → List ℕ → List ℕ → Tables → ℕ → ℕ → ℕ → ℕ → Bool
passing v q c w t k x r = is_carried c w x r (holds_at v w t (conjuncts_at q k))

-- the list has come to individual y, or to its end: no carrier before it passes, relying on the dials of the mask
pub record Carrying (q dials c w : List ℕ) (t : Tables) (s : List ℕ) (left k x r mask y : ℕ) : Type 0 where
  pub below : Below q dials c w t s left k x
  pub none : (v : ℕ → Constraint) → Choice v w t.constraints → Agrees dials w mask v → (i : ℕ) → i < t.individuals → (y ≡ 0) ⊎ (suc i < y) →
      is_carried c w x r (holds_at v w t (conjuncts_at q k)) i ≡ false
  pub here : (y ≡ 0 → ⊥) → Carrier c w t.individuals x y

-- a row that counts is in a list, and a successor of the individual
carried : (v : ℕ → Constraint) (q c w : List ℕ) (t : Tables) (k x r i : ℕ) → ((slot_of c (suc i) ≡ 0 → ⊥) → parent_at w i ≡ x → ⊥) → passing v q c w t k x r i ≡ false
carried v q c w t k x r i f = go (eqb (slot_of c (suc i)) 0) refl (eqb (parent_at w i) x) refl
  where
    go : (a : Bool) → eqb (slot_of c (suc i)) 0 ≡ a → (b : Bool) → eqb (parent_at w i) x ≡ b →
        not a && (b && (eqb (role_at w i) r && holds_at v w t (conjuncts_at q k) (suc i))) ≡ false
    go true ea b eb = refl
    go false ea false eb = refl
    go false ea true eb = absurd (f (eqb-false (slot_of c (suc i)) 0 ea) (eqb→eq (parent_at w i) x (is_true eb)))

module _ {q dials c w : List ℕ} {t : Tables} {s : List ℕ} {left k x r : ℕ} where
  list_starts : {y : ℕ} → Below q dials c w t s left k x → y ≡ under_of c x → Carrying q dials c w t s left k x r 0 y
  list_starts {y} b e = record {
    below = b;
    none = λ v a d i l p. carried v q c w t k x r i (λ n o.
        let u = b.testable.listed.first i l n in
        let z : under_of c (parent_at w i) ≡ y = ap (under_of c) o ∙ sym e in
        let m = u.within in
        ⊎_elim (λ h. u.some (z ∙ h)) (λ h. omega arith) p);
    here = λ n. rw e (b.testable.listed.child x b.individual.within (λ z. n (e ∙ z)));
  }

  module _ {mask y : ℕ} (g : Carrying q dials c w t s left k x r mask y) where
    list_ends : {b : Reason} → b.holds ≡ false → b.dials ≡ mask → y ≡ 0 → TellsCarried q dials c w t k x r s b
    unfolding has_carried
    list_ends z e h = record {
      tells = record { same = λ v a d. none_below (passing v q c w t k x r) t.individuals (λ i l. g.none v a (rw e at d) i l (inl h)) ∙ sym z };
      sure = g.below.testable.sure;
    }

    module _ (some : y ≡ 0 → ⊥) where
      list_row : Below q dials c w t s left k y
      list_row = let i = (g.here some).inside in record { level = g.below.level; testable = g.below.testable; individual = record { some = omega arith; within = omega arith } }

      up : suc (pred y) ≡ y
      up = omega arith

      noted : slot_of c (suc (pred y)) ≡ 0 → ⊥
      noted z = (g.here some).noted (ap (slot_of c) (sym up) ∙ z)

      module _ {s' : List ℕ} {one : Reason} (f : TellsRow q dials c w t k y r s' one) where
        row : (v : ℕ → Constraint) → Choice v w t.constraints → Agrees dials w one.dials v → passing v q c w t k x r (pred y) ≡ one.holds
        row v a d =
            rw (ne_eqb (slot_of c (suc (pred y))) 0 noted, eq-eqb (parent_at w (pred y)) x (g.here some).parent)
            (subst (λ (i : ℕ). eqb (role_at w (pred y)) r && holds_at v w t (conjuncts_at q k) i ≡ one.holds) (sym up) (f.tells.same v a d))

        list_found : one.holds ≡ true → TellsCarried q dials c w t k x r s' one
        unfolding has_carried
        list_found h = record {
          tells = record { same = λ v a d. some_below (passing v q c w t k x r) t.individuals (pred y) (g.here some).inside (row v a d ∙ h) ∙ sym h };
          sure = f.sure;
        }

        module _ {z : ℕ} (ez : z ≡ beside_of c y) where
          ahead : z ≡ beside_of c (suc (pred y))
          ahead = ez ∙ ap (beside_of c) (sym up)

          next : (z ≡ 0 → ⊥) → (suc (pred y) < z) × Carrier c w t.individuals (parent_at w (pred y)) z
          next n = rw ahead (g.below.testable.listed.sibling (pred y) (g.here some).inside noted (λ e. n (ahead ∙ e)))

          list_on : one.holds ≡ false → Carrying q dials c w t s' left k x r (bit_or mask one.dials) z
          list_on h = record {
            below = below_on g.below f.sure;
            none = λ v a d i l p. go v a d i l p (order (suc i) y) (order y (suc i));
            here = λ n. let a = (next n).1 in record { inside = a.inside; parent = a.parent ∙ (g.here some).parent; noted = a.noted };
          }
            where
              go : (v : ℕ → Constraint) → Choice v w t.constraints → Agrees dials w (bit_or mask one.dials) v → (i : ℕ) → i < t.individuals → (z ≡ 0) ⊎ (suc i < z) →
                  (suc i < y) ⊎ (y ≤ suc i) → (y < suc i) ⊎ (suc i ≤ y) → passing v q c w t k x r i ≡ false
              go v a d i l p (inl b) o = g.none v a (agrees_left mask one.dials d) i l (inr b)
              go v a d i l p (inr b) (inr e) =
                  let j : pred y ≡ i = omega arith in
                  subst (λ (m : ℕ). passing v q c w t k x r m ≡ false) j (row v a (agrees_right mask one.dials d) ∙ h)
              go v a d i l p (inr b) (inl e) = carried v q c w t k x r i (λ n o.
                  let u = g.below.testable.listed.next (pred y) i (omega arith) l noted n ((g.here some).parent ∙ sym o) in
                  let m = u.within in
                  ⊎_elim (λ j. u.some (sym ahead ∙ j)) (λ j. omega (arith, ahead)) p)

      list_falls : {z : ℕ} → z ≡ beside_of c y → falling t.individuals z < falling t.individuals y
      list_falls {z} ez = falls t.individuals y z (let i = (g.here some).inside in (omega arith, omega arith)) (go (eqb z 0) refl)
        where
          go : (b : Bool) → eqb z 0 ≡ b → (z ≡ 0) ⊎ ((y < z) × (z ≤ t.individuals))
          go true e = inl (eqb→eq z 0 (is_true e))
          go false e =
              let a = g.below.testable.listed.sibling (pred y) (g.here some).inside noted (λ h. eqb-false z 0 e (ez ∙ ap (beside_of c) (sym up) ∙ h)) in
              let b = a.0 in
              let d = a.1.inside in
              let o = ez ∙ ap (beside_of c) (sym up) in
              inr (omega arith, omega arith)

-- ---- the same, by what the list says of the next individual

named_none : (n : ℕ) → None ≡ named n → n ≡ 0
named_none n e = go (eqb n 0) refl e
  where
    go : (b : Bool) → eqb n 0 ≡ b → None ≡ cond b None (Some n) → n ≡ 0
    go true h e = eqb-true n 0 h
    go false h e = cc

named_some : (n : ℕ) {y : ℕ} → Some y ≡ named n → (n ≡ y) × (y ≡ 0 → ⊥)
named_some n {y} e = go (eqb n 0) refl e
  where
    go : (b : Bool) → eqb n 0 ≡ b → Some y ≡ cond b None (Some n) → (n ≡ y) × (y ≡ 0 → ⊥)
    go true h e = cc
    go false h e =
        let same : n ≡ y = cc in
        (same, λ z. eqb-false n 0 h (same ∙ z))

word_of : (n : ℕ) → unwrap_or (named n) 0 ≡ n
word_of n = split (λ o. unwrap_or o 0 ≡ n) (eqb n 0) (λ h. sym (eqb-true n 0 h)) (λ h. refl)

-- the list has come to an individual, or to its end
pub record Walking (q dials c w : List ℕ) (t : Tables) (s : List ℕ) (left k x r mask : ℕ) (next : Option ℕ) : Type 0 where
  pub word : ℕ
  pub is : next ≡ named word
  pub carrying : Carrying q dials c w t s left k x r mask word

module _ {q dials c w : List ℕ} {t : Tables} {s : List ℕ} {left k x r : ℕ} where
  pub walk_starts : {next : Option ℕ} → Below q dials c w t s left k x → next ≡ named (under_of c x) → Walking q dials c w t s left k x r 0 next
  walk_starts b e = record { word = under_of c x; is = e; carrying = list_starts b refl }

  module _ {mask : ℕ} {next : Option ℕ} (g : Walking q dials c w t s left k x r mask next) where
    pub walk_ends : {b : Reason} → b.holds ≡ false → b.dials ≡ mask → next ≡ None → TellsCarried q dials c w t k x r s b
    walk_ends z e h = list_ends g.carrying z e (named_none g.word (sym h ∙ g.is))

    module _ {y : ℕ} (h : next ≡ Some y) where
      some : y ≡ 0 → ⊥
      some = (named_some g.word (sym h ∙ g.is)).1

      at : Carrying q dials c w t s left k x r mask y
      at = subst (λ n. Carrying q dials c w t s left k x r mask n) (named_some g.word (sym h ∙ g.is)).0 g.carrying

      pub walk_row : Below q dials c w t s left k y
      walk_row = list_row at some

      pub walk_falls : {after : Option ℕ} → after ≡ named (beside_of c y) → falling t.individuals (unwrap_or after 0) < falling t.individuals (unwrap_or next 0)
      walk_falls {after} e = rw (e, word_of (beside_of c y), h) (list_falls at some refl)

      module _ {s' : List ℕ} {one : Reason} (f : TellsRow q dials c w t k y r s' one) where
        pub walk_found : one.holds ≡ true → TellsCarried q dials c w t k x r s' one
        walk_found = list_found at some f

        pub walk_on : {after : Option ℕ} → after ≡ named (beside_of c y) → one.holds ≡ false → Walking q dials c w t s' left k x r (bit_or mask one.dials) after
        walk_on e n = record { word = beside_of c y; is = e; carrying = list_on at some f refl n }
