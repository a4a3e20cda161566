-- The words of a policy as its terms: what it is for the records from one on to be a chain, and that they are then read as that chain.
use Prim.Native.Nat.{◌<◌, ◌≤◌, suc, zero, ℕ}
use mathlib.Core.Bool.{false}
use mathlib.Core.List.{List, [], ◌∷◌}
use mathlib.Core.Path.{◌≡◌, refl}
use lib.Dec.{eqb}
use lib.ListN.{length}
use native.Mathlib.Omega.{arith}
use borrow.Author.Tests.{ne_eqb}
use Rattle.meaning.specs.Accepted.{Here, Reads, ReadsTerms, count, reads_class, reads_end, reads_impossible, reads_interval}
use Rattle.meaning.specs.Accepted.{reads_none, reads_some, reads_term, total}
use Rattle.meaning.specs.Lists.{All, cons, nil}
use Rattle.meaning.specs.Policy.{Chain, Policy, chain_from, child_of, conjunct_at, next_of, terms_from}
use Rattle.meaning.specs.Records.{Enough, falling, last_of}
use Rattle.theory.proofs.Links.{falling_le, falls, onward_le}

-- so each chain is shorter than the policy
pub count-< : (P : Policy) (n : ℕ) → total P ≤ n → All (λ c. count c < n) P
count-< [] n h = nil
count-< (c ∷ P) n h = cons {x = c} (omega arith) (count-< P n (omega arith))

module _ {p : List ℕ} where
  -- fuel falls from a record to its links
  module _ {k : ℕ} (w : Here p k) where
    child_falls : falling (last_of 6 p) (child_of p k) < falling (last_of 6 p) k
    child_falls = falls (last_of 6 p) k (child_of p k) w.inside w.child

    next_falls : falling (last_of 6 p) (next_of p k) < falling (last_of 6 p) k
    next_falls = falls (last_of 6 p) k (next_of p k) w.inside w.next

    pub child_enough : {f : ℕ} → Enough (last_of 6 p) (suc f) k → Enough (last_of 6 p) f (child_of p k)
    child_enough h = (onward_le (last_of 6 p) k (child_of p k) w.child, omega (arith, child_falls))

    pub next_enough : {f : ℕ} → Enough (last_of 6 p) (suc f) k → Enough (last_of 6 p) f (next_of p k)
    next_enough h = (onward_le (last_of 6 p) k (next_of p k) w.next, omega (arith, next_falls))

    not_header : eqb k 0 ≡ false
    not_header = let i = w.inside in ne_eqb k 0 (λ e. omega arith)

    -- a record in front of what its links lead to
    chain_step : {c : Chain} (f : ℕ) → falling (last_of 6 p) k ≤ f →
        ((g : ℕ) → falling (last_of 6 p) (child_of p k) ≤ g → falling (last_of 6 p) (next_of p k) ≤ g →
        conjunct_at p k (chain_from g p (child_of p k)) (chain_from g p (next_of p k)) ≡ c) →
        chain_from f p k ≡ c
    chain_step zero h go = absurd (omega (arith, child_falls))
    chain_step (suc f) h go = rw not_header (go f (omega (arith, child_falls)) (omega (arith, next_falls)))

  -- what the words are is what is read, for every fuel that is enough
  pub chain_is : {k : ℕ} {c : Chain} → Reads p k c → (f : ℕ) → falling (last_of 6 p) k ≤ f → chain_from f p k ≡ c
  chain_is (reads_end e) zero h = refl
  chain_is (reads_end e) (suc f) h = rw e
  chain_is (reads_class w e r) f h = chain_step w f h (λ g a b. rw (e, chain_is r g b))
  chain_is (reads_impossible w e r) f h = chain_step w f h (λ g a b. rw (e, chain_is r g b))
  chain_is (reads_some w e q r) f h = chain_step w f h (λ g a b. rw (e, chain_is q g a, chain_is r g b))
  chain_is (reads_interval w e r) f h = chain_step w f h (λ g a b. rw (e, chain_is r g b))

  -- and the length of the table is enough
  pub chain_at : {k : ℕ} {c : Chain} → Reads p k c → chain_from (length p) p k ≡ c
  chain_at {k} r = chain_is r (length p) (omega (arith, falling_le (last_of 6 p) k))

  pub terms_are : {k : ℕ} {P : Policy} → ReadsTerms p k P → (f : ℕ) → falling (last_of 6 p) k ≤ f → terms_from f p k ≡ P
  terms_are (reads_none e) zero h = refl
  terms_are (reads_none e) (suc f) h = rw e
  terms_are (reads_term w e r t) zero h = absurd (omega (arith, next_falls w))
  terms_are (reads_term w e r t) (suc f) h = rw (not_header w, chain_at r, terms_are t f (omega (arith, next_falls w)))
