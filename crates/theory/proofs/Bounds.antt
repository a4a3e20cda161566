-- The classes of an accepted vocabulary and of an accepted policy are among 1 to the class count.
use Prim.Native.Nat.{ℕ}
use mathlib.Core.List.{List}
use mathlib.Core.Path.{◌≡◌}
use Rattle.meaning.specs.Accepted.{NamedChain}
use Rattle.meaning.specs.Lists.{All}
use Rattle.meaning.specs.Normal.{Bounded}
use Rattle.meaning.specs.Policy.{Chain, class, end, impossible, interval, policy_of, policy_refusal, some}
use Rattle.meaning.specs.Records.{Name}
use Rattle.meaning.specs.Stated.{range_pairs, subclasses}
use Rattle.meaning.specs.Vocabulary.{class_count, feature_count, role_count, vocabulary_of, vocabulary_refusal}
use Rattle.theory.proofs.Defaults.{accepted_stated}
use Rattle.theory.proofs.Normal.{BoundedChain}
use Rattle.theory.proofs.Rules.{all_mono, all_of}
use Rattle.theory.proofs.Stated.{all_stated, ranges_in_lem}
use Rattle.theory.proofs.Wellformed.{accepted_terms}

pub bounded : (v : List ℕ) → vocabulary_refusal v ≡ 0 → Bounded (vocabulary_of v)
unfolding vocabulary_of
bounded v e =
    let named = all_stated (vocabulary_of v) (accepted_stated v e) in
    record { above = λ a b m. (named.subclass a b m).1; ranged = λ r c m. (named.ranged r c m).1 }

-- the names of the pairs that are stated
pub subclasses_named : (v : List ℕ) → vocabulary_refusal v ≡ 0 → All (λ p. Name (class_count v) p.0 × Name (class_count v) p.1) (subclasses (vocabulary_of v))
subclasses_named v e = all_of (subclasses (vocabulary_of v)) (λ p m. (all_stated (vocabulary_of v) (accepted_stated v e)).subclass p.0 p.1 m)

pub range_pairs_named : (v : List ℕ) → vocabulary_refusal v ≡ 0 → All (λ p. Name (role_count v) p.0 × Name (class_count v) p.1) (range_pairs (vocabulary_of v))
range_pairs_named v e =
    all_of (range_pairs (vocabulary_of v)) (λ p m.
    (all_stated (vocabulary_of v) (accepted_stated v e)).ranged p.0 p.1 (ranges_in_lem (vocabulary_of v) p.0 p.1 m))

pub chain_bounded : (N R F : ℕ) (c : Chain) → NamedChain N R F c → BoundedChain N c
chain_bounded N R F end h = tt
chain_bounded N R F (class a next) h = (h.0, chain_bounded N R F next h.1)
chain_bounded N R F (impossible next) h = chain_bounded N R F next h
chain_bounded N R F (some r child next) h = (chain_bounded N R F child h.1, chain_bounded N R F next h.2)
chain_bounded N R F (interval f lo hi next) h = chain_bounded N R F next h.1

pub bounded_terms : (v p : List ℕ) → policy_refusal v p ≡ 0 → All (BoundedChain (vocabulary_of v).classes) (policy_of p)
unfolding vocabulary_of
bounded_terms v p e = all_mono (chain_bounded (class_count v) (role_count v) (feature_count v)) (accepted_terms v p e)
