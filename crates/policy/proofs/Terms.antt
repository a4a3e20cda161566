-- The way along the terms of an accepted policy, for whatever is asked of them one after another. Other crates cite it for their loops
-- `k = first_term(p); while k != 0 { .. k = next_of(p, k); }`.
use Prim.Native.Nat.{◌+◌, ◌<◌, ◌≤◌, suc, ℕ}
use mathlib.Core.List.{List, [], ◌∷◌}
use mathlib.Core.Path.{◌≡◌, subst}
use lib.ListN.{length}
use native.Mathlib.Omega.{arith}
use Rattle.meaning.specs.Accepted.{ChainOf, ReadsTerms, depth, reads_none, reads_term, total}
use Rattle.meaning.specs.Limits.{most_depth, most_records}
use Rattle.meaning.specs.Lists.{All}
use Rattle.meaning.specs.Policy.{Chain, Policy, first_term, next_of, policy_of, policy_refusal, term_at}
use Rattle.meaning.specs.Records.{falling, last_of}
use Rattle.policy.specs.Terms.{TermOf, term_links}
use Rattle.records.proofs.Chains.{Walking, walking_ends, walking_falls, walking_found, walking_on, walking_sound, walking_starts}
use Rattle.records.specs.Chains.{Along, along_end, along_more}
use Rattle.theory.proofs.Rules.{head, tail}
use Rattle.theory.proofs.Terms.{chain_at}
use Rattle.theory.proofs.Wellformed.{accepted}

pub total_length : (P : Policy) → length P ≤ total P
total_length [] = omega arith
total_length (c ∷ P) = let h = total_length P in omega arith

module _ (v p : List ℕ) where
  along : {k : ℕ} {P : Policy} → ReadsTerms p k P → All (ChainOf v) P → All (λ c. depth c ≤ most_depth) P → total P ≤ most_records → Along (term_links v p) k P
  unfolding term_links
  along (reads_none e) n s f = along_end e
  along (reads_term {k = k} {c = c} {P = P} h e r m) n s f =
      let i : term_at p k ≡ c = chain_at r in
      subst (λ (x : Chain). Along (term_links v p) k (x ∷ P)) i
      (along_more h.inside h.next (record { nameless = e.1; reads = rw i r; named = rw i (head n); shallow = rw i (head s); few = rw i (omega arith) })
      (along m (tail n) (tail s) (omega arith)))

  pub terms_along : policy_refusal v p ≡ 0 → Along (term_links v p) (first_term p) (policy_of p)
  terms_along a =
      let b = accepted v p a in
      let c = b.few in
      let d = b.small in
      along b.reads b.named b.shallow (omega arith)

-- the terms from record k on, the first of them at the place s, are still to be asked, and T holds of them
pub record Asking (T : ℕ → Policy → Type 0) (v p : List ℕ) (s k : ℕ) : Type 0 where
  pub walk : Walking (term_links v p) (λ l. (s + length l ≤ suc most_records) × T s l) k

module _ {T : ℕ → Policy → Type 0} {v p : List ℕ} where
  pub asking_starts : {k : ℕ} → policy_refusal v p ≡ 0 → k ≡ first_term p → T 1 (policy_of p) → Asking T v p 1 k
  asking_starts a e h =
      let b = accepted v p a in
      let c = b.few in
      let d = b.small in
      let l = total_length (policy_of p) in
      record { walk = walking_starts (terms_along v p a) e (omega arith, h) }

  module _ {s k : ℕ} (t : Asking T v p s k) where
    pub asking_ends : k ≡ 0 → T s []
    unfolding term_links
    asking_ends z = (walking_ends t.walk z).1

    module _ (n : k ≡ 0 → ⊥) where
      pub asking_term : TermOf v p k
      unfolding term_links
      asking_term = walking_sound t.walk n

      pub asking_room : s + 1 ≤ suc most_records
      unfolding term_links
      asking_room = walking_found t.walk n (λ l h. let r = h.0 in omega arith)

      -- what this one settles, whatever follows
      pub asking_found : {B : Type 0} → ((l : Policy) → T s (term_at p k ∷ l) → B) → B
      unfolding term_links
      asking_found f = walking_found t.walk n (λ l h. f l h.1)

      module _ {x : ℕ} (z : x ≡ next_of p k) where
        pub asking_on : ((l : Policy) → T s (term_at p k ∷ l) → T (s + 1) l) → Asking T v p (s + 1) x
        unfolding term_links
        asking_on f = record { walk = walking_on t.walk n z (λ l h. let r = h.0 in (omega arith, f l h.1)) }

        pub asking_falls : falling (last_of 6 p) x < falling (last_of 6 p) k
        unfolding term_links
        asking_falls = walking_falls t.walk n z
