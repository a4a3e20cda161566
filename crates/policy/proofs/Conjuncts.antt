-- The way along the conjuncts of a chain, for whatever is done with them one after another. Other crates cite it for their loops
-- `at = k; while at != 0 { .. at = next_of(p, at); }`.
use Prim.Native.Nat.{◌-◌, ◌<◌, ◌≤◌, ℕ}
use mathlib.Core.Bool.{Bool, cond, false, true}
use mathlib.Core.List.{List}
use mathlib.Core.Path.{◌≡◌, refl, subst}
use lib.Dec.{eqb}
use native.Mathlib.Omega.{arith}
use Rattle.meaning.specs.Accepted.{Reads, depth, reads_class, reads_end, reads_impossible, reads_interval, reads_some}
use Rattle.meaning.specs.Policy.{Chain, child_of, class, conjunct_at, end, hi_of, impossible, interval, kind_of, lo_of, name_of, next_of, some}
use Rattle.meaning.specs.Records.{falling, last_of}
use Rattle.policy.specs.Terms.{ConjunctOf, conjunct_links, conjunct_of, conjuncts_at}
use Rattle.records.proofs.Chains.{Walking, walking_ends, walking_falls, walking_found, walking_on, walking_sound, walking_starts}
use Rattle.records.specs.Chains.{Along, along_end, along_more}
use Rattle.theory.proofs.Terms.{chain_at}

-- what holds of each kind of conjunct alone, and before others, holds of record k's
pub conjunct_kinds : (Q : Chain → Chain → Type 0) (p : List ℕ) (k : ℕ) (child next : Chain) → ((a : ℕ) → Q (class a end) (class a next)) → Q (impossible end) (impossible next) →
    ((r : ℕ) → Q (some r child end) (some r child next)) → ((f lo hi : ℕ) → Q (interval f lo hi end) (interval f lo hi next)) →
    Q (conjunct_at p k child end) (conjunct_at p k child next)
conjunct_kinds Q p k child next c i s l = go (eqb (kind_of p k) 1) (eqb (kind_of p k) 2) (eqb (kind_of p k) 3)
  where
    go : (a b d : Bool) →
        Q (cond a (class (name_of p k) end) (cond b (impossible end) (cond d (some (name_of p k) child end) (interval (name_of p k) (lo_of p k) (hi_of p k) end))))
        (cond a (class (name_of p k) next) (cond b (impossible next) (cond d (some (name_of p k) child next) (interval (name_of p k) (lo_of p k) (hi_of p k) next))))
    go true b d = c _
    go false true d = i
    go false false true = s _
    go false false false = l _ _ _

module _ (p : List ℕ) where
  along : {k : ℕ} {c : Chain} → Reads p k c → Along (conjunct_links p) k c
  unfolding conjunct_links
  along (reads_end e) = along_end e
  along (reads_class {k = k} {c = c} h i n) =
      subst (Along (conjunct_links p) k) (rw i) (along_more h.inside h.next (record { kind = (omega arith, omega arith); child = λ j. absurd (omega arith) }) (along n))
  along (reads_impossible {k = k} h i n) =
      subst (Along (conjunct_links p) k) (rw i) (along_more h.inside h.next (record { kind = (omega arith, omega arith); child = λ j. absurd (omega arith) }) (along n))
  along (reads_some {k = k} h i r n) =
      subst (Along (conjunct_links p) k) (rw (i, chain_at r)) (along_more h.inside h.next (record { kind = (omega arith, omega arith); child = λ j. rw (chain_at r) r }) (along n))
  along (reads_interval {k = k} h i n) =
      subst (Along (conjunct_links p) k) (rw i) (along_more h.inside h.next (record { kind = (omega arith, omega arith); child = λ j. absurd (omega arith) }) (along n))

-- the conjuncts from record k on are still to be gone to, and T holds of them
pub record Going (T : Chain → Type 0) (p : List ℕ) (k : ℕ) : Type 0 where
  pub walk : Walking (conjunct_links p) T k

module _ {T : Chain → Type 0} {p : List ℕ} {k : ℕ} where
  pub going_starts : Reads p k (conjuncts_at p k) → T (conjuncts_at p k) → Going T p k
  going_starts r h = record { walk = walking_starts (along p r) refl h }

  module _ (g : Going T p k) where
    pub going_ends : k ≡ 0 → T end
    unfolding conjunct_links
    going_ends z = walking_ends g.walk z

    module _ (n : k ≡ 0 → ⊥) where
      pub going_conjunct : ConjunctOf p k
      unfolding conjunct_links
      going_conjunct = walking_sound g.walk n

      -- what this one settles, whatever follows
      pub going_found : {B : Type 0} → ((c : Chain) → T (conjunct_at p k (conjuncts_at p (child_of p k)) c) → B) → B
      unfolding conjunct_links
      going_found f = walking_found g.walk n f

      module _ {x : ℕ} (e : x ≡ next_of p k) where
        pub going_on : {U : Chain → Type 0} → ((c : Chain) → T (conjunct_at p k (conjuncts_at p (child_of p k)) c) → U c) → Going U p x
        unfolding conjunct_links
        going_on f = record { walk = walking_on g.walk n e f }

        pub going_falls : falling (last_of 6 p) x < falling (last_of 6 p) k
        unfolding conjunct_links
        going_falls = walking_falls g.walk n e

-- ---- levels

-- a level for each role on the way down
pub depth_first : (p : List ℕ) (k left : ℕ) (child next : Chain) → depth (conjunct_at p k child next) ≤ left → (depth (conjunct_at p k child end) ≤ left) × (depth next ≤ left)
depth_first p k left child next =
    conjunct_kinds (λ h c. depth c ≤ left → (depth h ≤ left) × (depth next ≤ left)) p k child next (λ a d. (omega arith, omega arith)) (λ d. (omega arith, omega arith))
    (λ r d. (omega arith, omega arith)) (λ f lo hi d. (omega arith, omega arith))

pub child_level : (p : List ℕ) (k : ℕ) {left : ℕ} → kind_of p k ≡ 3 → depth (conjunct_of p k) ≤ left → (1 ≤ left) × (depth (conjuncts_at p (child_of p k)) ≤ left - 1)
child_level p k i d = let e : depth (some (name_of p k) (conjuncts_at p (child_of p k)) end) ≤ _ = rw i at d in (omega arith, omega arith)
