-- The records of a model that was read, along its chain: contracts ask for this.
use Rattle.std.specs.Prelude.{ℕ, List, ◌≡◌, length}
use Rattle.meaning.specs.Limits.{most_classes, most_individuals}
use Rattle.meaning.specs.Model.{Fact, fact_at, fact_kind, fact_name, fact_next, fact_other, fact_owner}
use Rattle.meaning.specs.Model.{facts_of, facts_refusal, first_fact, individual_count}
use Rattle.meaning.specs.Records.{Name, last_of}
use Rattle.records.specs.Chains.{Along, Links, listed}

-- 33, or 0, of the records along the chain
abbrev pub chain_refusal : List ℕ → List ℕ → ℕ
chain_refusal v m = facts_refusal (length m) v m (first_fact m)

-- record k's kind is one of the three, its individuals are the header's, and its class is one that a vocabulary may count
pub record Stated (m : List ℕ) (k : ℕ) : Type 0 where
  pub kind : Name 3 (fact_kind m k)
  pub owner : Name (individual_count m) (fact_owner m k)
  pub class : fact_kind m k ≡ 1 → Name most_classes (fact_name m k)
  pub target : fact_kind m k ≡ 2 → Name (individual_count m) (fact_other m k)

unfoldable pub fact_links : List ℕ → Links (List Fact)
fact_links m = listed (last_of 5 m) (fact_next m) (fact_at m) (Stated m)

-- the facts of the model stand along its chain
pub record Readable (m : List ℕ) : Type 0 where
  pub individuals : Name most_individuals (individual_count m)
  pub facts : Along (fact_links m) (first_fact m) (facts_of m)
