-- What the records of a policy stand for.
use Rattle.std.specs.Prelude.{◌<◌, ◌≤◌, ℕ, List, ◌≡◌, length}
use Rattle.meaning.specs.Accepted.{ChainOf, Reads, count, depth}
use Rattle.meaning.specs.Limits.{most_depth, most_records}
use Rattle.meaning.specs.Policy.{Chain, Policy, chain_from, child_of, conjunct_at, end, kind_of, name_of, next_of, term_at}
use Rattle.meaning.specs.Records.{Name, last_of}
use Rattle.records.specs.Chains.{Links, listed}

-- the conjuncts from record k on; none at 0, which ends a chain
abbrev pub conjuncts_at : List ℕ → ℕ → Chain
conjuncts_at p k = chain_from (length p) p k

-- the conjunct at record k, with nothing after it
abbrev pub conjunct_of : List ℕ → ℕ → Chain
conjunct_of p k = conjunct_at p k (conjuncts_at p (child_of p k)) end

-- record k is a conjunct's, and a role's has a chain of its own
pub record ConjunctOf (p : List ℕ) (k : ℕ) : Type 0 where
  pub kind : Name 4 (kind_of p k)
  pub child : kind_of p k ≡ 3 → Reads p (child_of p k) (conjuncts_at p (child_of p k))

unfoldable pub conjunct_links : List ℕ → Links Chain
conjunct_links p = record {
  last = last_of 6 p;
  next = next_of p;
  none = end;
  put = λ k c. conjunct_at p k (conjuncts_at p (child_of p k)) c;
  Sound = ConjunctOf p;
}

-- record k is a term of a policy that v accepts
pub record TermOf (v p : List ℕ) (k : ℕ) : Type 0 where
  pub nameless : name_of p k ≡ 0
  pub reads : Reads p (child_of p k) (term_at p k)
  pub named : ChainOf v (term_at p k)
  pub shallow : depth (term_at p k) ≤ most_depth
  pub few : count (term_at p k) < most_records

unfoldable pub term_links : List ℕ → List ℕ → Links Policy
term_links v p = listed (last_of 6 p) (next_of p) (term_at p) (TermOf v p)
