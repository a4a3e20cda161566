-- Laws of the conjuncts from a record on: one after another, one by its kind, and what is told of them.
use Prim.Native.Nat.{◌-◌, ◌≤◌, pred, ℕ}
use mathlib.Core.Bool.{Bool, ◌&&◌, ◌||◌, and-true, cond, false, not, true}
use mathlib.Core.List.{List, [], ◌∷◌}
use mathlib.Core.Path.{◌∙◌, ◌≡◌, ap, refl, sym}
use native.Mathlib.Omega.{arith}
use borrow.Author.Tests.{eqb-true, not-false, not-true}
use lib.Bits.{bit_or}
use lib.Dec.{eqb}
use Rattle.carriers.specs.Carriers.{slot_of}
use Rattle.layout.specs.Tables.{set_at}
use Rattle.layout.specs.declared.Tables.{Tables}
use Rattle.meaning.specs.Accepted.{depth}
use Rattle.meaning.specs.Intervals.{Constraint}
use Rattle.meaning.specs.Limits.{most_records}
use Rattle.meaning.specs.Lists.{any, counting}
use Rattle.meaning.specs.Policy.{Chain, child_of, kind_of, name_of, next_of}
use Rattle.policy.proofs.Conjuncts.{Going, child_level, depth_first, going_conjunct, going_ends, going_found, going_on, going_starts}
use Rattle.policy.specs.Terms.{conjunct_of, conjuncts_at}
use Rattle.retest.proofs.Masks.{agrees_left, agrees_right}
use Rattle.retest.proofs.Memory.{recall_sure, settled_known, sure_remembered, tells_always}
use Rattle.retest.specs.Memory.{Asked, Below, Pending, Sure, TellsAll, TellsCarried, TellsOne, TellsStill, Testable, recalled, remembered}
use Rattle.retest.specs.declared.State.TheVariants.{Fails, Passes, Rests}
use Rattle.retest.specs.declared.State.{State}
use Rattle.std.specs.Prelude.{Option, Some}
use Rattle.retest.specs.Reasons.{Agrees, Choice, has_carried, has_still, is_carried, is_still}
use Rattle.retest.specs.declared.Reason.{Reason}
use Rattle.subsumption.proofs.Conjuncts.{holds_first}
use Rattle.subsumption.specs.Tests.{Individual, has_successor, holds_at, is_passing}
use Rattle.words.specs.Sets.{in_set}

-- ---- one after another

-- what has passed relies on the dials of the mask: what is told of the conjuncts that are left is told of those from record first on
pub record Rest (q dials w : List ℕ) (t : Tables) (left first x mask : ℕ) (l : Chain) : Type 0 where
  pub shallow : depth l ≤ left
  pub fails : (v : ℕ → Constraint) → holds_at v w t l x ≡ false → holds_at v w t (conjuncts_at q first) x ≡ false
  pub passes : (v : ℕ → Constraint) → Choice v w t.constraints → Agrees dials w mask v → holds_at v w t l x ≡ true →
      holds_at v w t (conjuncts_at q first) x ≡ true

pub test_starts : {q dials c w : List ℕ} {t : Tables} {s : List ℕ} {left k x : ℕ} → Testable q dials c w t s left k → Going (Rest q dials w t left k x 0) q k
test_starts g = going_starts g.reads (record { shallow = g.shallow; fails = λ v f. f; passes = λ v c a h. h })

module _ {q dials w : List ℕ} {t : Tables} {left first x mask k : ℕ} (g : Going (Rest q dials w t left first x mask) q k) where
  pub test_ends : {c s : List ℕ} {r : Reason} → Sure q c w t s → r.holds ≡ true → r.dials ≡ mask → k ≡ 0 → TellsAll q dials c w t first x s r
  test_ends m y e z = record { tells = record { same = λ v a d. (going_ends g z).passes v a (rw e at d) refl ∙ sym y }; sure = m }

  module _ (z : k ≡ 0 → ⊥) where
    pub test_asked : {c s s' : List ℕ} {i : ℕ} → Testable q dials c w t s left i → Sure q c w t s' → Individual t x → Asked q dials c w t s' left k x
    test_asked h m i = record {
      testing = h.testing;
      listed = h.listed;
      sure = m;
      conjunct = going_conjunct g z;
      shallow = going_found g z (λ l r. (depth_first q k left _ l r.shallow).0);
      individual = i;
    }

    -- what is told of record k's
    module _ {c s' : List ℕ} {one : Reason} (f : TellsOne q dials c w t k x s' one) where
      pub test_fails : not one.holds ≡ true → TellsAll q dials c w t first x s' one
      test_fails h = record {
        tells = record {
          same = λ v a d.
              let no = f.tells.same v a d ∙ not-true one.holds h in
              going_found g z (λ l r. r.fails v (holds_first v w t x q k _ l ∙ rw no)) ∙ sym (not-true one.holds h);
        };
        sure = f.sure;
      }

      pub test_on : {y : ℕ} → not one.holds ≡ false → y ≡ next_of q k → Going (Rest q dials w t left first x (bit_or mask one.dials)) q y
      test_on h ey = going_on g z ey (λ l r. record {
        shallow = (depth_first q k left _ l r.shallow).1;
        fails = λ v later. r.fails v (holds_first v w t x q k _ l ∙ no (holds_at v w t (conjunct_of q k) x) (holds_at v w t l x) later);
        passes = λ v a d later. r.passes v a (agrees_left mask one.dials d)
            (holds_first v w t x q k _ l ∙ rw (f.tells.same v a (agrees_right mask one.dials d), not-false one.holds h) later);
      })
        where
          no : (a b : Bool) → b ≡ false → a && b ≡ false
          no true b e = e
          no false b e = refl

-- ---- a class, and the impossible concept

pub kind_other : (q : List ℕ) (k : ℕ) {kind n : ℕ} → kind ≡ kind_of q k → (kind ≡ n → ⊥) → kind_of q k ≡ n → ⊥
kind_other q k e f h = f (e ∙ h)

module _ {q dials c w : List ℕ} {t : Tables} {s : List ℕ} {left k x : ℕ} (g : Asked q dials c w t s left k x) {kind : ℕ} (ek : kind ≡ kind_of q k) where
  pub class_told : {r : Reason} {a i : ℕ} → a ≡ name_of q k → kind ≡ 1 → i ≡ x - 1 → r.holds ≡ in_set (set_at w i) a → TellsOne q dials c w t k x s r
  class_told {r} {a} {i} ea h er f =
      let j : i ≡ pred x = omega arith in
      record { tells = record { same = λ v d e. sym (f ∙ ap (λ (i : ℕ). in_set (set_at w i) a) j ∙ rw (← ek, h, ea, and-true)) }; sure = g.sure }

  pub impossible_told : {r : Reason} → r.holds ≡ false → kind ≡ 2 → TellsOne q dials c w t k x s r
  impossible_told n h = record { tells = record { same = λ v d e. rw (← ek, h) (sym n) }; sure = g.sure }

-- ---- a role

-- the successors in no list, and those in one
all_successors : (c w : List ℕ) (n x r : ℕ) (p : ℕ → Bool) → has_successor w n x r p ≡ has_still c w n x r p || has_carried c w n x r p
unfolding has_successor has_still has_carried
all_successors c w n x r p = go (counting 0 n)
  where
    move : (a b d e : Bool) → (b || (d || e)) ≡ (((a && b) || d) || ((not a && b) || e))
    move true true d e = refl
    move true false d e = refl
    move false true true e = refl
    move false true false e = refl
    move false false d e = refl

    go : (l : List ℕ) → any (is_passing w x r p) l ≡ any (is_still c w x r p) l || any (is_carried c w x r p) l
    go [] = refl
    go (j ∷ l) = ap (λ (b : Bool). is_passing w x r p j || b) (go l) ∙ move (eqb (slot_of c _) 0) (is_passing w x r p j) (any (is_still c w x r p) l) (any (is_carried c w x r p) l)

module _ {q dials c w : List ℕ} {t : Tables} {s : List ℕ} {left k x slot : ℕ} {state : Option State} (g : Pending q dials c w t s left k x slot state) (own : kind_of q k ≡ 3)
    {r y : ℕ} (er : r ≡ name_of q k) (ey : y ≡ child_of q k) where
  -- the child chain is held to the individual's successors
  pub role_below : {s' : List ℕ} → Sure q c w t s' → Below q dials c w t s' left y x
  role_below m = let a = g.asked in let d = child_level q k own a.shallow in record {
    level = d.0;
    testable = rw ey (record { testing = a.testing; listed = a.listed; sure = m; reads = a.conjunct.child own; shallow = d.1 });
    individual = a.individual;
  }

  abbrev still : (ℕ → Constraint) → Bool
  still v = has_still c w t.individuals x r (holds_at v w t (conjuncts_at q y))

  abbrev carries : (ℕ → Constraint) → Bool
  carries v = has_carried c w t.individuals x r (holds_at v w t (conjuncts_at q y))

  conjunct : (v : ℕ → Constraint) → holds_at v w t (conjunct_of q k) x ≡ still v || carries v
  conjunct v = rw (own, and-true, ← er, ← ey) (all_successors c w t.individuals x r (holds_at v w t (conjuncts_at q y)))

  pub role_open : {s' : List ℕ} {b : Reason} → state ≡ Some Rests → TellsCarried q dials c w t y x r s' b → TellsOne q dials c w t k x s' b
  role_open e f = record {
    tells = record {
      same = λ v a d.
          let n : still v ≡ false = rw (er, ey) ((g.known.rests e).role own v a) in
          conjunct v ∙ rw n (f.tells.same v a d);
    };
    sure = f.sure;
  }

  pub role_carried : {s₂ : List ℕ} {b : Reason} → TellsCarried q dials c w t y x r s₂ b → b.holds ≡ true → TellsOne q dials c w t k x s₂ b
  role_carried f h = record { tells = record { same = λ v a d. conjunct v ∙ or_right (still v) (carries v) (f.tells.same v a d ∙ h) ∙ sym h }; sure = f.sure }
    where
      or_right : (a b : Bool) → b ≡ true → (a || b) ≡ true
      or_right true b e = refl
      or_right false b e = e

  module _ {s₁ : List ℕ} {one : Reason} (f : TellsStill q dials c w t y x r s₁ one) where
    pub role_still : one.holds ≡ true → TellsOne q dials c w t k x s₁ one
    role_still h = record { tells = record { same = λ v a d. conjunct v ∙ rw (f.tells.same v a d, h) }; sure = f.sure }

    pub role_noted : {s₂ : List ℕ} → one.holds ≡ false → s₂ ≡ cond (eqb one.dials 0) (remembered s₁ k slot x Rests) s₁ → Sure q c w t s₂
    role_noted {s₂} h e = go (eqb one.dials 0) refl e
      where
        go : (b : Bool) → eqb one.dials 0 ≡ b → s₂ ≡ cond b (remembered s₁ k slot x Rests) s₁ → Sure q c w t s₂
        go true eb e = sure_remembered f.sure k slot g.slotted (record {
          passes = λ (z : Some Rests ≡ Some Passes). cc;
          fails = λ (z : Some Rests ≡ Some Fails). cc;
          rests = λ _. record { role = λ _ v a. rw (← er, ← ey) (tells_always f.tells (eqb-true one.dials 0 eb) v a ∙ h); feature = λ n. absurd (n own) };
        }) e
        go false eb e = rw e f.sure

    module _ (no : one.holds ≡ false) {s₂ : List ℕ} {other : Reason} (h : TellsCarried q dials c w t y x r s₂ other) where
      pub role_none : {b : Reason} → other.holds ≡ false → b.holds ≡ false → b.dials ≡ bit_or one.dials other.dials → TellsOne q dials c w t k x s₂ b
      role_none {b} n z e = record {
        tells = record {
          same = λ v a d.
              let u : Agrees dials w (bit_or one.dials other.dials) v = rw e at d in
              conjunct v ∙ rw (f.tells.same v a (agrees_left one.dials other.dials u), no, h.tells.same v a (agrees_right one.dials other.dials u), n) (sym z);
        };
        sure = h.sure;
      }

-- ---- by what is remembered

pub individual_few : {q dials c w : List ℕ} {t : Tables} {s : List ℕ} {left k x : ℕ} → Asked q dials c w t s left k x → x ≤ most_records
individual_few g = omega (arith, g.individual.within, g.testing.standing.individuals)

module _ {q dials c w : List ℕ} {t : Tables} {s : List ℕ} {left k x slot : ℕ} {state : Option State} (g : Asked q dials c w t s left k x) (es : slot ≡ slot_of c x) (ek : state ≡ recalled s k slot x) where
  few : slot ≤ 16
  few = omega (arith, g.listed.few x g.individual.within)

  pub recalled_passes : {r : Reason} → state ≡ Some Passes → r.holds ≡ true → TellsOne q dials c w t k x s r
  recalled_passes e y = record { tells = record { same = λ v a d. (recall_sure g.sure k slot few g.individual ek).passes e v a ∙ sym y }; sure = g.sure }

  pub recalled_fails : {r : Reason} → state ≡ Some Fails → r.holds ≡ false → TellsOne q dials c w t k x s r
  recalled_fails e z = record { tells = record { same = λ v a d. (recall_sure g.sure k slot few g.individual ek).fails e v a ∙ sym z }; sure = g.sure }

  pub recalled_pending : (kind_of q k ≡ 1 → ⊥) → (kind_of q k ≡ 2 → ⊥) → Pending q dials c w t s left k x slot state
  recalled_pending a b = record { asked = g; other = (a, b); slotted = few; known = recall_sure g.sure k slot few g.individual ek }

  pub recalled_noted : {s₁ s₂ : List ℕ} {one : Reason} {code : State} → TellsOne q dials c w t k x s₁ one → one.dials ≡ 0 → code ≡ cond one.holds Passes Fails →
      s₂ ≡ remembered s₁ k slot x code → TellsOne q dials c w t k x s₂ one
  recalled_noted {one = one} f z e h = record { tells = f.tells; sure = sure_remembered f.sure k slot few (settled_known f.tells z e) h }
