-- The keys of a policy, one term after another, are its ends.
use Prim.Native.Nat.{◌*◌, ◌+◌, ◌<◌, ◌≤◌, ℕ}
use mathlib.Core.List.{List, []}
use mathlib.Core.Path.{◌∙◌, ◌≡◌, ap, refl, subst, sym}
use native.Mathlib.Omega.{arith}
use lib.ListN.{get_or, length}
use Rattle.keys.proofs.Adding.{gathered_none, gathered_then}
use Rattle.keys.specs.Keys.{Gathered, value_count}
use Rattle.meaning.specs.Accepted.{count, total}
use Rattle.meaning.specs.Limits.{most_depth}
use Rattle.meaning.specs.Policy.{Policy, child_of, first_term, next_of, policy_of, policy_refusal}
use Rattle.meaning.specs.Records.{falling, last_of}
use Rattle.policy.proofs.Terms.{terms_along}
use Rattle.policy.specs.Terms.{conjuncts_at, term_links}
use Rattle.records.proofs.Chains.{Walking, walking_ends, walking_falls, walking_found, walking_on, walking_sound, walking_starts}
use Rattle.splitting.proofs.Keys.{keys_ends, keys_few, keys_in}
use Rattle.splitting.specs.Ends.{Chained, Collectable, Collected, Ends, keys_of}
use Rattle.theory.proofs.Wellformed.{accepted}

-- there is room for the terms that are left, and what is done with their keys is done with those of the policy
pub record Rest (q e₀ e : List ℕ) (n : ℕ) (l : Policy) : Type 0 where
  pub room : n + 2 * total l ≤ length e
  pub whole : {e' : List ℕ} {r : ℕ} → Gathered (keys_in l) n e e' r → Gathered (keys_in (policy_of q)) 0 e₀ e' r

-- before the term at record k: n words are written, of the slice that was e₀
pub record Collecting (q e₀ e : List ℕ) (n k : ℕ) : Type 0 where
  pub vocabulary : List ℕ
  pub accepted : policy_refusal vocabulary q ≡ 0
  pub same : length e ≡ length e₀
  pub walk : Walking (term_links vocabulary q) (Rest q e₀ e n) k

pub collecting_starts : {q e : List ℕ} {k : ℕ} → Collectable q e → k ≡ first_term q → Collecting q e e 0 k
collecting_starts {q} s h =
    let a = accepted s.vocabulary q s.accepted in
    record {
      vocabulary = s.vocabulary;
      accepted = s.accepted;
      same = refl;
      walk = walking_starts (terms_along s.vocabulary q s.accepted) h (record { room = omega (arith, s.room, a.few, a.small); whole = λ p. p });
    }

module _ {q e₀ e : List ℕ} {n k : ℕ} (s : Collecting q e₀ e n k) where
  pub collecting_ends : ((i : ℕ) → get_or q i 0 < value_count) → k ≡ 0 → Collected (policy_of q) e₀ e n
  unfolding term_links
  collecting_ends w z =
      let t = walking_ends s.walk z in
      record {
        same = s.same;
        within = omega (arith, t.room);
        ends = subst (Ends (policy_of q)) (sym ((t.whole (gathered_none n e)).keys [] refl)) (keys_ends w (accepted s.vocabulary q s.accepted).reads);
      }

  module _ (z : k ≡ 0 → ⊥) where
    pub collecting_falls : {next : ℕ} → next ≡ next_of q k → falling (last_of 6 q) next < falling (last_of 6 q) k
    unfolding term_links
    collecting_falls en = walking_falls s.walk z en

    module _ {child : ℕ} (ec : child ≡ child_of q k) where
      pub collecting_child : Chained q e most_depth child n
      unfolding term_links
      collecting_child =
          let t = walking_sound s.walk z in
          rw ec (record { reads = t.reads; shallow = t.shallow; room = walking_found s.walk z (λ l h. omega (arith, h.room)) })

      pub collecting_on : {e' : List ℕ} {m next : ℕ} → Gathered (keys_of (conjuncts_at q child)) n e e' m → next ≡ next_of q k → Collecting q e₀ e' m next
      unfolding term_links
      collecting_on p en = record {
        vocabulary = s.vocabulary;
        accepted = s.accepted;
        same = p.same ∙ s.same;
        walk = walking_on s.walk z en (λ l h. record {
          room = omega (arith, h.room, p.long, p.same, keys_few (conjuncts_at q child), ap (λ (j : ℕ). count (conjuncts_at q j)) ec);
          whole = λ later. h.whole (gathered_then (rw ec at p) later);
        });
      }
