-- Within the limits 22 is not given.
use Prim.Native.Nat.{ℕ}
use mathlib.Core.List.{List}
use Rattle.demands.specs.Enough.{BothUncrowded, BothWithinLimits, Uncrowded, WithinLimits}
use Rattle.meaning.specs.Policy.{policy_of}
use Rattle.meaning.specs.Vocabulary.{vocabulary_of}
use Rattle.theory.proofs.ShortWay.{few_uncrowded}

-- where no term of the first policy has too many combinations Compliance gives no 22
pub limits_uncrowded : {v p q : List ℕ} {w : ℕ} → WithinLimits v p q w → Uncrowded v p q w
limits_uncrowded {v} {p} {q} a = record {
  accepted = a.accepted;
  full = a.full;
  free = few_uncrowded (vocabulary_of v) (policy_of p) (policy_of q) a.few;
}

-- where none of either has, Equality gives none
pub both_limits_uncrowded : {v p q : List ℕ} {w : ℕ} → BothWithinLimits v p q w → BothUncrowded v p q w
both_limits_uncrowded {v} {p} {q} a = record {
  accepted = a.accepted;
  full = a.full;
  forth = few_uncrowded (vocabulary_of v) (policy_of p) (policy_of q) a.few;
  back = few_uncrowded (vocabulary_of v) (policy_of q) (policy_of p) a.fewer;
}
