-- Laws of the conjuncts from a record on: the first and the rest, and one by its kind.
use Prim.Native.Nat.{◌-◌, ◌≤◌, pred, ℕ}
use mathlib.Core.Bool.{Bool, ◌&&◌, and-true, false, not, true}
use mathlib.Core.List.{List}
use mathlib.Core.Path.{◌∙◌, ◌≡◌, ap, refl, sym}
use native.Mathlib.Omega.{arith}
use borrow.Author.Tests.{not-false, not-true}
use Rattle.layout.specs.Tables.{set_at}
use Rattle.layout.specs.declared.Tables.{Tables}
use Rattle.meaning.specs.Accepted.{depth}
use Rattle.meaning.specs.Intervals.{Constraint}
use Rattle.meaning.specs.Policy.{Chain, conjunct_at, end, kind_of, name_of, next_of}
use Rattle.policy.proofs.Conjuncts.{Going, conjunct_kinds, depth_first, going_conjunct, going_ends, going_found, going_on, going_starts}
use Rattle.policy.specs.Terms.{conjunct_of, conjuncts_at}
use Rattle.subsumption.specs.Tests.{Asked, Testable, holds_at, holds_whole}
use Rattle.words.specs.Sets.{in_set}

-- ---- the first conjunct and the rest

-- for any choice of pieces
pub holds_first : (v : ℕ → Constraint) (w : List ℕ) (t : Tables) (x : ℕ) (q : List ℕ) (k : ℕ) (child next : Chain) →
    holds_at v w t (conjunct_at q k child next) x ≡ holds_at v w t (conjunct_at q k child end) x && holds_at v w t next x
holds_first v w t x q k child next =
    conjunct_kinds (λ h c. holds_at v w t c x ≡ holds_at v w t h x && holds_at v w t next x) q k child next (λ a. rw and-true) refl (λ r. rw and-true) (λ f lo hi. rw and-true)

-- ---- one after another

-- what is told of the conjuncts that are left is told of those from record first on
pub record Rest (q w : List ℕ) (t : Tables) (left first x : ℕ) (c : Chain) : Type 0 where
  pub shallow : depth c ≤ left
  pub same : holds_whole w t c x ≡ holds_whole w t (conjuncts_at q first) x

pub test_starts : {q w : List ℕ} {t : Tables} {left k x : ℕ} → Testable q w t left k → Going (Rest q w t left k x) q k
test_starts s = going_starts s.reads (record { shallow = s.shallow; same = refl })

module _ {q w : List ℕ} {t : Tables} {left first x k : ℕ} (g : Going (Rest q w t left first x) q k) where
  pub test_ends : {b : Bool} → b ≡ true → k ≡ 0 → b ≡ holds_whole w t (conjuncts_at q first) x
  test_ends y z = y ∙ (going_ends g z).same

  module _ (z : k ≡ 0 → ⊥) where
    pub test_asked : {i : ℕ} → Testable q w t left i → Asked q w t left k
    test_asked s = record {
      standing = s.standing;
      nested = s.nested;
      conjunct = going_conjunct g z;
      shallow = going_found g z (λ c r. (depth_first q k left _ c r.shallow).0);
    }

    module _ {one : Bool} (f : one ≡ holds_whole w t (conjunct_of q k) x) where
      pub test_fails : {b : Bool} → b ≡ false → not one ≡ true → b ≡ holds_whole w t (conjuncts_at q first) x
      test_fails n h =
          let no = sym f ∙ not-true one h in
          n ∙ going_found g z (λ c r. sym (holds_first _ w t x q k _ c ∙ rw no) ∙ r.same)

      pub test_on : {y : ℕ} → not one ≡ false → y ≡ next_of q k → Going (Rest q w t left first x) q y
      test_on {y} h ey =
          let yes = sym f ∙ not-false one h in
          going_on g z ey (λ c r. record { shallow = (depth_first q k left _ c r.shallow).1; same = sym (holds_first _ w t x q k _ c ∙ rw yes) ∙ r.same })

-- ---- one, by its kind

module _ {q w : List ℕ} {t : Tables} {left k : ℕ} (s : Asked q w t left k) {kind : ℕ} (ek : kind ≡ kind_of q k) where
  module _ (x : ℕ) {a : ℕ} (ea : a ≡ name_of q k) where
    pub class_told : {r : Bool} {i : ℕ} → kind ≡ 1 → i ≡ x - 1 → r ≡ in_set (set_at w i) a → r ≡ holds_whole w t (conjunct_of q k) x
    class_told {i = i} h er f =
        let j : i ≡ pred x = omega arith in
        f ∙ ap (λ (i : ℕ). in_set (set_at w i) a) j ∙ rw (← ek, h, ea, and-true)

  pub impossible_told : (x : ℕ) {r : Bool} → r ≡ false → kind ≡ 2 → r ≡ holds_whole w t (conjunct_of q k) x
  impossible_told x n h = n ∙ rw (← ek, h)
