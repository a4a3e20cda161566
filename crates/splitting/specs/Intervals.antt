-- What is asked of a policy whose intervals are counted.
use Rattle.std.specs.Prelude.{◌≤◌, ℕ, List}
use Rattle.meaning.specs.Accepted.{Reads, count, depth}
use Rattle.meaning.specs.Limits.{most_depth, most_records}
use Rattle.meaning.specs.Policy.{child_of, term_at}
use Rattle.policy.specs.Terms.{ConjunctOf, conjunct_of, conjuncts_at}

-- the conjuncts from record k on are read, with at most so many levels, and are no more than a policy's records
pub record ChainCounted (p : List ℕ) (left k : ℕ) : Type 0 where
  pub reads : Reads p k (conjuncts_at p k)
  pub shallow : depth (conjuncts_at p k) ≤ left
  pub few : count (conjuncts_at p k) ≤ most_records

-- so is the conjunct at record k
pub record OneCounted (p : List ℕ) (left k : ℕ) : Type 0 where
  pub conjunct : ConjunctOf p k
  pub shallow : depth (conjunct_of p k) ≤ left
  pub few : count (conjunct_of p k) ≤ most_records

-- so are those of the term at record k
pub record TermCounted (p : List ℕ) (k : ℕ) : Type 0 where
  pub reads : Reads p (child_of p k) (term_at p k)
  pub shallow : depth (term_at p k) ≤ most_depth
  pub few : count (term_at p k) ≤ most_records
