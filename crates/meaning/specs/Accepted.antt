-- What accepted tables are: names of their series, and records whose links lead from conjunct to conjunct. Contracts ask for this of
-- a table that was read, and it is proved of every table that is accepted.
use Rattle.std.specs.Prelude.{◌+◌, ◌≤◌, max, suc, ℕ, List, [], ◌∷◌, ◌≡◌}
use Rattle.meaning.specs.Limits.{most_depth, most_records}
use Rattle.meaning.specs.Lists.{All}
use Rattle.meaning.specs.Policy.{Chain, Policy, child_of, class, end, first_term, hi_of, impossible, interval, kind_of, lo_of, name_of}
use Rattle.meaning.specs.Policy.{next_of, policy_of, some}
use Rattle.meaning.specs.Records.{Name, Onward, last_of}
use Rattle.meaning.specs.Vocabulary.{Axiom, below, class_count, disjoint, feature_count, functional_feature, functional_role, many_feature}
use Rattle.meaning.specs.Vocabulary.{many_role, range, role_count}

-- ---- the vocabulary

-- each name between 1 and its series' count
abbrev pub NamedAxiom : ℕ → ℕ → ℕ → Axiom → Type 0
NamedAxiom N R F (below a b) = Name N a × Name N b
NamedAxiom N R F (disjoint a b) = Name N a × Name N b
NamedAxiom N R F (functional_role r) = Name R r
NamedAxiom N R F (functional_feature f) = Name F f
NamedAxiom N R F (range r c) = Name R r × Name N c
NamedAxiom N R F (many_role r) = Name R r
NamedAxiom N R F (many_feature f) = Name F f

-- an axiom's names are by the counts of v
abbrev pub AxiomOf : List ℕ → Axiom → Type 0
AxiomOf v x = NamedAxiom (class_count v) (role_count v) (feature_count v) x

-- ---- the policy

-- each name between 1 and its series' count
abbrev pub NamedChain : ℕ → ℕ → ℕ → Chain → Type 0
NamedChain N R F end = Unit {0}
NamedChain N R F (class a next) = Name N a × NamedChain N R F next
NamedChain N R F (impossible next) = NamedChain N R F next
NamedChain N R F (some r child next) = Name R r × NamedChain N R F child × NamedChain N R F next
NamedChain N R F (interval f lo hi next) = Name F f × NamedChain N R F next

-- a chain's names are by the counts of v
abbrev pub ChainOf : List ℕ → Chain → Type 0
ChainOf v c = NamedChain (class_count v) (role_count v) (feature_count v) c

-- how many levels of conjuncts a chain has
abbrev pub depth : Chain → ℕ
depth end = 0
depth (class a next) = max 1 (depth next)
depth (impossible next) = max 1 (depth next)
depth (some r child next) = max (suc (depth child)) (depth next)
depth (interval f lo hi next) = max 1 (depth next)

-- how many records a chain is made of
abbrev pub count : Chain → ℕ
count end = 0
count (class a next) = suc (count next)
count (impossible next) = suc (count next)
count (some r child next) = suc (count child + count next)
count (interval f lo hi next) = suc (count next)

-- how many of them are intervals
abbrev pub interval_count : Chain → ℕ
interval_count end = 0
interval_count (class a next) = interval_count next
interval_count (impossible next) = interval_count next
interval_count (some r child next) = interval_count child + interval_count next
interval_count (interval f lo hi next) = suc (interval_count next)

-- how many terms and conjuncts a policy has
abbrev pub total : Policy → ℕ
total [] = 0
total (c ∷ P) = suc (count c + total P)

-- record k stands after the header, and its links rise and stay inside
pub record Here (p : List ℕ) (k : ℕ) : Type 0 where
  pub inside : Name (last_of 6 p) k
  pub child : Onward (last_of 6 p) k (child_of p k)
  pub next : Onward (last_of 6 p) k (next_of p k)

-- the words from record k on are the chain
pub data Reads (p : List ℕ) : ℕ → Chain → Type 0 where
  reads_end : {k : ℕ} → k ≡ 0 → Reads p k end
  reads_class : {k : ℕ} {c : Chain} → Here p k → kind_of p k ≡ 1 → Reads p (next_of p k) c → Reads p k (class (name_of p k) c)
  reads_impossible : {k : ℕ} {c : Chain} → Here p k → kind_of p k ≡ 2 → Reads p (next_of p k) c → Reads p k (impossible c)
  reads_some : {k : ℕ} {b c : Chain} → Here p k → kind_of p k ≡ 3 → Reads p (child_of p k) b → Reads p (next_of p k) c →
      Reads p k (some (name_of p k) b c)
  reads_interval : {k : ℕ} {c : Chain} → Here p k → kind_of p k ≡ 4 → Reads p (next_of p k) c →
      Reads p k (interval (name_of p k) (lo_of p k) (hi_of p k) c)

-- the words from record k on are the terms
pub data ReadsTerms (p : List ℕ) : ℕ → Policy → Type 0 where
  reads_none : {k : ℕ} → k ≡ 0 → ReadsTerms p k []
  reads_term : {k : ℕ} {c : Chain} {P : Policy} → Here p k → (kind_of p k ≡ 5) × (name_of p k ≡ 0) →
      Reads p (child_of p k) c → ReadsTerms p (next_of p k) P → ReadsTerms p k (c ∷ P)

-- what an accepted policy's words say: they are terms, with names of v's, of at most 16 levels, and no record is in two places
pub record Accepted (v p : List ℕ) : Type 0 where
  pub reads : ReadsTerms p (first_term p) (policy_of p)
  pub named : All (ChainOf v) (policy_of p)
  pub shallow : All (λ c. depth c ≤ most_depth) (policy_of p)
  pub few : total (policy_of p) ≤ last_of 6 p
  pub small : last_of 6 p ≤ most_records
