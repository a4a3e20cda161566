-- The keys of a chain, one conjunct after another.
use Prim.Native.Nat.{◌*◌, ◌+◌, ◌≤◌, ℕ}
use mathlib.Core.List.{List, ◌++◌, append-nil}
use mathlib.Core.Path.{◌≡◌, refl}
use native.Mathlib.Omega.{arith}
use lib.ListN.{length}
use Rattle.keys.proofs.Adding.{gathered_none, gathered_then}
use Rattle.keys.specs.Keys.{Gathered}
use Rattle.meaning.specs.Accepted.{count, depth}
use Rattle.meaning.specs.Policy.{Chain, child_of, conjunct_at, next_of}
use Rattle.policy.proofs.Conjuncts.{Going, conjunct_kinds, depth_first, going_conjunct, going_ends, going_found, going_on, going_starts}
use Rattle.policy.specs.Terms.{conjunct_of, conjuncts_at}
use Rattle.splitting.proofs.Keys.{keys_few}
use Rattle.splitting.specs.Ends.{Chained, Single, keys_of}

-- ---- a conjunct and what is after it

module _ (q : List ℕ) (k : ℕ) (c : Chain) where
  abbrev child : Chain
  child = conjuncts_at q (child_of q k)

  keys_first : keys_of (conjunct_at q k child c) ≡ keys_of (conjunct_of q k) ++ keys_of c
  keys_first = conjunct_kinds (λ here all. keys_of all ≡ keys_of here ++ keys_of c) q k child c (λ a. refl) refl (λ r. rw append-nil) (λ f lo hi. refl)

  pub count_first : count (conjunct_at q k child c) ≡ count (conjunct_of q k) + count c
  count_first =
      conjunct_kinds (λ here all. count all ≡ count here + count c) q k child c (λ a. omega arith) (omega arith) (λ r. omega arith) (λ f lo hi. omega arith)

-- ---- one after another

-- the keys of the conjuncts c are still to be added after n words: what is done with them is done with those from record first on, after m words
-- of what was e₀
pub record Rest (q e₀ : List ℕ) (left first m : ℕ) (e : List ℕ) (n : ℕ) (c : Chain) : Type 0 where
  pub shallow : depth c ≤ left
  pub room : n + 2 * count c ≤ length e
  pub whole : {e' : List ℕ} {r : ℕ} → Gathered (keys_of c) n e e' r → Gathered (keys_of (conjuncts_at q first)) m e₀ e' r

pub chain_starts : {q e : List ℕ} {left k n : ℕ} → Chained q e left k n → Going (Rest q e left k n e n) q k
chain_starts s = going_starts s.reads (record { shallow = s.shallow; room = s.room; whole = λ p. p })

module _ {q e₀ : List ℕ} {left first m : ℕ} {e : List ℕ} {n k : ℕ} (g : Going (Rest q e₀ left first m e n) q k) where
  pub chain_ends : k ≡ 0 → Gathered (keys_of (conjuncts_at q first)) m e₀ e n
  chain_ends z = (going_ends g z).whole (gathered_none n e)

  module _ (z : k ≡ 0 → ⊥) where
    pub chain_single : Single q e left k n
    chain_single = going_found g z (λ c h. record {
      conjunct = going_conjunct g z;
      shallow = (depth_first q k left _ c h.shallow).0;
      room = omega (arith, h.room, count_first q k c);
    })

    pub chain_on : {e' : List ℕ} {r x : ℕ} → Gathered (keys_of (conjunct_of q k)) n e e' r → x ≡ next_of q k → Going (Rest q e₀ left first m e' r) q x
    chain_on p ex = going_on g z ex (λ c h. record {
      shallow = (depth_first q k left _ c h.shallow).1;
      room = omega (arith, h.room, count_first q k c, p.long, p.same, keys_few (conjunct_of q k));
      whole = λ later. h.whole (rw (keys_first q k c) (gathered_then p later));
    })
