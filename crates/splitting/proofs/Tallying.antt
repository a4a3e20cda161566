-- The intervals of a chain, counted one conjunct after another.
use Prim.Native.Nat.{◌+◌, ◌≤◌, ℕ}
use mathlib.Core.List.{List}
use mathlib.Core.Path.{◌≡◌}
use native.Mathlib.Omega.{arith}
use Rattle.meaning.specs.Accepted.{count, depth, interval_count}
use Rattle.meaning.specs.Limits.{most_records}
use Rattle.meaning.specs.Policy.{Chain, child_of, class, conjunct_at, end, impossible, interval, next_of, some}
use Rattle.policy.proofs.Conjuncts.{Going, conjunct_kinds, depth_first, going_conjunct, going_ends, going_found, going_on, going_starts}
use Rattle.policy.specs.Terms.{conjunct_of, conjuncts_at}
use Rattle.splitting.proofs.Collecting.{count_first}
use Rattle.splitting.specs.Intervals.{ChainCounted, OneCounted}

intervals_few : (c : Chain) → interval_count c ≤ count c
intervals_few end = omega arith
intervals_few (class a next) = omega (arith, intervals_few next)
intervals_few (impossible next) = omega (arith, intervals_few next)
intervals_few (some r child next) = omega (arith, intervals_few child, intervals_few next)
intervals_few (interval f lo hi next) = omega (arith, intervals_few next)

intervals_first : (p : List ℕ) (k : ℕ) (c : Chain) →
    interval_count (conjunct_at p k (conjuncts_at p (child_of p k)) c) ≡ interval_count (conjunct_of p k) + interval_count c
intervals_first p k c =
    conjunct_kinds (λ here all. interval_count all ≡ interval_count here + interval_count c) p k (conjuncts_at p (child_of p k)) c
    (λ a. omega arith) (omega arith) (λ r. omega arith) (λ f lo hi. omega arith)

-- ---- one after another

-- the conjuncts c are still to be counted, after n intervals of those from record first on
pub record Uncounted (p : List ℕ) (left first n : ℕ) (c : Chain) : Type 0 where
  pub shallow : depth c ≤ left
  pub few : count c ≤ most_records
  pub whole : n + interval_count c ≡ interval_count (conjuncts_at p first)
  pub bound : interval_count (conjuncts_at p first) ≤ most_records

pub counting_starts : {p : List ℕ} {left k : ℕ} → ChainCounted p left k → Going (Uncounted p left k 0) p k
counting_starts {p} {k = k} a =
    going_starts a.reads (record { shallow = a.shallow; few = a.few; whole = omega arith; bound = omega (arith, intervals_few (conjuncts_at p k), a.few) })

module _ {p : List ℕ} {left first n k : ℕ} (g : Going (Uncounted p left first n) p k) where
  pub counting_ends : k ≡ 0 → n ≡ interval_count (conjuncts_at p first)
  counting_ends z = let h = (going_ends g z).whole in omega arith

  module _ (z : k ≡ 0 → ⊥) where
    pub counting_one : OneCounted p left k
    counting_one = going_found g z (λ c h. record {
      conjunct = going_conjunct g z;
      shallow = (depth_first p k left _ c h.shallow).0;
      few = omega (arith, h.few, count_first p k c);
    })

    module _ {r : ℕ} (e : r ≡ interval_count (conjunct_of p k)) where
      pub counting_fits : n + r ≤ most_records
      counting_fits = going_found g z (λ c h. omega (arith, h.whole, h.bound, intervals_first p k c))

      pub counting_on : {x : ℕ} → x ≡ next_of p k → Going (Uncounted p left first (n + r)) p x
      counting_on ex = going_on g z ex (λ c h. record {
        shallow = (depth_first p k left _ c h.shallow).1;
        few = omega (arith, h.few, count_first p k c);
        whole = omega (arith, h.whole, intervals_first p k c);
        bound = h.bound;
      })
