-- A walk along the chain of an accepted model: its facts, one after another. Other crates cite it for their loops
-- `k = first_fact(m); while k != 0 { .. k = fact_next(m, k); }`.
use Prim.Native.Nat.{◌<◌, ◌≤◌, ℕ}
use mathlib.Core.Bool.{Bool, ◌&&◌, and-eq-true_iff, cond, false, true}
use mathlib.Core.List.{List, [], ◌∷◌}
use mathlib.Core.Path.{◌≡◌, refl}
use lib.Dec.{eqb}
use lib.ListN.{length}
use native.Mathlib.Omega.{arith}
use borrow.Author.Tests.{eqb-true}
use Rattle.meaning.specs.Limits.{most_classes}
use Rattle.meaning.specs.Model.{Fact, fact_at, fact_fits, fact_kind, fact_name, fact_next, fact_other, facts_of, first_fact, individual_count}
use Rattle.meaning.specs.Model.{model_refusal, sound_fact}
use Rattle.meaning.specs.Records.{Name, Onward, falling, is_name, last_of}
use Rattle.meaning.specs.Vocabulary.{class_count, feature_count, role_count, vocabulary_refusal}
use Rattle.model.specs.Chain.{Readable, Stated, fact_links}
use Rattle.records.proofs.Chains.{Walking, read_along, walking_ends, walking_falls, walking_on, walking_sound}
use Rattle.records.proofs.Chains.{walking_starts}
use Rattle.theory.proofs.Links.{falling_le, passed, tests}
use Rattle.theory.proofs.Wellformed.{accepted_counts}

module _ (v m : List ℕ) (most : class_count v ≤ most_classes) where
  kind_named : (k : ℕ) → fact_fits v m k ≡ true → Name 3 (fact_kind m k)
  kind_named k h = go (eqb (fact_kind m k) 1) (eqb (fact_kind m k) 2) refl refl (let u = simp and-eq-true_iff at h in u.1)
    where
      go : (b c : Bool) → eqb (fact_kind m k) 1 ≡ b → eqb (fact_kind m k) 2 ≡ c →
          cond b (is_name (class_count v) (fact_name m k) && eqb (fact_other m k) 0) (cond c (is_name (role_count v) (fact_name m k) && is_name (individual_count m) (fact_other m k)) (eqb (fact_kind m k) 3 && is_name (feature_count v) (fact_name m k))) ≡ true →
          Name 3 (fact_kind m k)
      go true c e f g = let z = eqb-true (fact_kind m k) 1 e in omega arith
      go false true e f g = let z = eqb-true (fact_kind m k) 2 f in omega arith
      go false false e f g = let u = simp tests at g in omega arith

  class_named : (k : ℕ) → fact_fits v m k ≡ true → fact_kind m k ≡ 1 → Name most_classes (fact_name m k)
  class_named k h e = let u = simp tests at (rw e at h) in omega arith

  target_named : (k : ℕ) → fact_fits v m k ≡ true → fact_kind m k ≡ 2 → Name (individual_count m) (fact_other m k)
  target_named k h e = let u = simp tests at (rw e at h) in omega arith

  stated : (k : ℕ) → sound_fact v m k ≡ true → Stated m k × Onward (last_of 5 m) k (fact_next m k)
  stated k h =
      let s = simp tests at h in
      let fit : fact_fits v m k ≡ true = simp tests s.0 in
      (record { kind = kind_named k fit; owner = s.0.0; class = class_named k fit; target = target_named k fit }, s.1)

pub readable : (v m : List ℕ) → vocabulary_refusal v ≡ 0 → model_refusal v m ≡ 0 → Readable m
unfolding model_refusal facts_of fact_links
readable v m a h =
    let n = accepted_counts v a in
    let u = simp (passed 30, passed 31, tests) at h in record {
      individuals = u.1.0.1.0;
      facts = read_along (fact_at m) 32 (sound_fact v m) (stated v m n.0.1) (length m) (first_fact m)
          (u.1.0.0, omega (arith, falling_le (last_of 5 m) (first_fact m))) u.1.1;
    }

-- a loop that has come to record k: the facts that are left, and what holds of them
pub record Scanning (T : List Fact → Type 0) (m : List ℕ) (k : ℕ) : Type 0 where
  pub walk : Walking (fact_links m) T k

module _ {T : List Fact → Type 0} {m : List ℕ} {k : ℕ} where
  pub scanning_starts : Readable m → k ≡ first_fact m → T (facts_of m) → Scanning T m k
  scanning_starts r e h = record { walk = walking_starts r.facts e h }

  module _ (s : Scanning T m k) where
    pub scanning_ends : k ≡ 0 → T []
    unfolding fact_links
    scanning_ends z = walking_ends s.walk z

    module _ (n : k ≡ 0 → ⊥) where
      pub scanning_stated : Stated m k
      unfolding fact_links
      scanning_stated = walking_sound s.walk n

      module _ {x : ℕ} (z : x ≡ fact_next m k) where
        pub scanning_on : {U : List Fact → Type 0} → ((l : List Fact) → T (fact_at m k ∷ l) → U l) → Scanning U m x
        unfolding fact_links
        scanning_on f = record { walk = walking_on s.walk n z f }

        pub scanning_falls : falling (last_of 5 m) x < falling (last_of 5 m) k
        unfolding fact_links
        scanning_falls = walking_falls s.walk n z
