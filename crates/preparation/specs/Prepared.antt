-- What the front of the work slice holds of a vocabulary through a call.
use Rattle.std.specs.Prelude.{ℕ, List, ◌≡◌}
use Rattle.closure.specs.Rows.{ClosedRows, RangeRows}
use Rattle.functional.specs.FunctionalNames.{FunctionalNames}
use Rattle.functional.specs.declared.Functional.{Functional}
use Rattle.meaning.specs.Policy.{policy_refusal}
use Rattle.meaning.specs.Vocabulary.{vocabulary_refusal}
use Rattle.pairs.specs.Pairs.{PairRows}

-- the rows and the pairs in front of the tables and the functional names are those of the accepted vocabulary v
pub record Prepared (v w : List ℕ) (f : Functional) : Type 0 where
  pub accepted : vocabulary_refusal v ≡ 0
  pub closed : ClosedRows v w
  pub ranged : RangeRows v w
  pub paired : PairRows v w
  pub functional : FunctionalNames v f

-- the vocabulary v is prepared, and accepts the policy
pub record Accepting (v p w : List ℕ) (f : Functional) : Type 0 where
  pub prepared : Prepared v w f
  pub policy : policy_refusal v p ≡ 0
