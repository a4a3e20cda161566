-- Laws of a policy's records: what a chain tells from one on, how deep it is, and what its links lead to.
use Prim.Native.Nat.{◌≤◌, max, suc, ℕ}
use mathlib.Core.Bool.{Bool, ◌&&◌, and_assoc, and_comm, and-false, cond}
use mathlib.Core.List.{List, [], ◌∷◌}
use mathlib.Core.Path.{◌≡◌, refl, sym}
use native.Mathlib.Omega.{arith}
use lib.Dec.{eqb}
use Rattle.extension.specs.Sets.{Charted, edge_into, own, reached}
use Rattle.meaning.specs.Accepted.{ChainOf, Here, Reads, depth, reads_class, reads_end, reads_impossible, reads_interval, reads_some}
use Rattle.meaning.specs.Limits.{most_depth, most_roles}
use Rattle.meaning.specs.Lists.{any}
use Rattle.meaning.specs.Model.{Fact, edge, facts_of, member, value}
use Rattle.meaning.specs.ModelCheck.{has_within, holds, reaches}
use Rattle.meaning.specs.Policy.{Chain, child_of, end, hi_of, kind_of, lo_of, name_of, next_of}
use Rattle.meaning.specs.Records.{Name, last_of}
use Rattle.meaning.specs.Vocabulary.{role_count}
use Rattle.policy.specs.Terms.{conjuncts_at}
use Rattle.satisfaction.specs.Classes.{owner_of}
use Rattle.spans.specs.Values.{value_within, valued}
use Rattle.theory.proofs.Terms.{chain_at}

-- ---- of whom a conjunct holds

any_same : {A : Type 0} (f g : A → Bool) → ((x : A) → f x ≡ g x) → (l : List A) → any f l ≡ any g l
any_same f g h [] = refl
any_same f g h (x ∷ l) = rw (h x, any_same f g h l)

swap : (a b c : Bool) → (a && b) && c ≡ b && (a && c)
swap a b c = rw (and_comm a b, and_assoc b a c)

module _ (p m : List ℕ) (k i : ℕ) where
  abbrev child : ℕ → Bool
  child = holds (facts_of m) (conjuncts_at p (child_of p k))

  role_reached : any (reaches (name_of p k) i child) (facts_of m) ≡ reached p m k i
  role_reached = any_same _ (λ x. eqb i (owner_of x) && edge_into (name_of p k) child x) go (facts_of m)
    where
      go : (x : Fact) → reaches (name_of p k) i child x ≡ eqb i (owner_of x) && edge_into (name_of p k) child x
      go (member b j) = sym (and-false (eqb i j))
      go (edge r j t) = swap (eqb (name_of p k) r) (eqb i j) (child t)
      go (value f j v) = sym (and-false (eqb i j))

  feature_valued : any (has_within (name_of p k) i (lo_of p k) (hi_of p k)) (facts_of m) ≡ valued p m k i
  feature_valued = any_same _ (λ x. eqb i (owner_of x) && value_within (name_of p k) (lo_of p k) (hi_of p k) x) go (facts_of m)
    where
      go : (x : Fact) → has_within (name_of p k) i (lo_of p k) (hi_of p k) x ≡ eqb i (owner_of x) && value_within (name_of p k) (lo_of p k) (hi_of p k) x
      go (member b j) = sym (and-false (eqb i j))
      go (edge r j t) = sym (and-false (eqb i j))
      go (value f j v) = swap (eqb (name_of p k) f) (eqb i j) _

-- ---- the first conjunct and the rest

-- how deep the conjunct at record k is
abbrev pub own_depth : List ℕ → ℕ → ℕ
own_depth p k = cond (eqb (kind_of p k) 3) (suc (depth (conjuncts_at p (child_of p k)))) 1

-- what record k tells of the chain c from it on
pub record Cut (p m : List ℕ) (k : ℕ) (c : Chain) : Type 0 where
  pub here : Here p k
  pub next : Charted p (next_of p k)
  pub child : kind_of p k ≡ 3 → Charted p (child_of p k)
  pub role : kind_of p k ≡ 3 → Name most_roles (name_of p k)
  pub head : (i : ℕ) → holds (facts_of m) c i ≡ own p m k i && holds (facts_of m) (conjuncts_at p (next_of p k)) i
  pub deep : depth c ≡ max (own_depth p k) (depth (conjuncts_at p (next_of p k)))

module _ {p : List ℕ} (v : List ℕ) (few : role_count v ≤ most_roles) where
  pub charted : {k : ℕ} {c : Chain} → Reads p k c → ChainOf v c → depth c ≤ most_depth → Charted p k
  charted r n d = record { vocabulary = v; reads = rw (chain_at r) r; named = rw (chain_at r) n; roles = few; shallow = rw (chain_at r) d }

  module _ (m : List ℕ) {k : ℕ} (z : k ≡ 0 → ⊥) where
    cut_reads : {c : Chain} → Reads p k c → ChainOf v c → depth c ≤ most_depth → Cut p m k c
    cut_reads (reads_end e) n d = absurd (z e)
    cut_reads (reads_class h e r) n d = record {
      here = h;
      next = charted r n.1 (omega arith);
      child = λ q. absurd (omega arith);
      role = λ q. absurd (omega arith);
      head = λ i. rw (e, chain_at r);
      deep = rw (e, chain_at r);
    }
    cut_reads (reads_impossible h e r) n d = record {
      here = h;
      next = charted r n (omega arith);
      child = λ q. absurd (omega arith);
      role = λ q. absurd (omega arith);
      head = λ i. rw e;
      deep = rw (e, chain_at r);
    }
    cut_reads (reads_some h e q r) n d = record {
      here = h;
      next = charted r n.2 (omega arith);
      child = λ _. charted q n.1 (omega arith);
      role = λ _. let a = n.0 in omega arith;
      head = λ i. rw (e, ← role_reached p m k i, chain_at q, chain_at r);
      deep = rw (e, chain_at q, chain_at r);
    }
    cut_reads (reads_interval h e r) n d = record {
      here = h;
      next = charted r n.1 (omega arith);
      child = λ q. absurd (omega arith);
      role = λ q. absurd (omega arith);
      head = λ i. rw (e, ← feature_valued p m k i, chain_at r);
      deep = rw (e, chain_at r);
    }

pub cut : {p : List ℕ} (m : List ℕ) {k : ℕ} → (k ≡ 0 → ⊥) → Charted p k → Cut p m k (conjuncts_at p k)
cut m z c = cut_reads c.vocabulary c.roles m z c.reads c.named c.shallow

pub no_more : (p : List ℕ) → conjuncts_at p 0 ≡ end
no_more p = let z : Reads p 0 end = reads_end refl in chain_at z

pub inside : {p : List ℕ} {k : ℕ} → Charted p k → k ≤ last_of 6 p
inside {p} {k} c = go c.reads
  where
    go : {c : Chain} → Reads p k c → k ≤ last_of 6 p
    go (reads_end e) = omega arith
    go (reads_class h e n) = h.inside.1
    go (reads_impossible h e n) = h.inside.1
    go (reads_some h e q n) = h.inside.1
    go (reads_interval h e n) = h.inside.1
