-- Slices of one length with equal reached records and header get equal answers, whatever is accepted or refused.
use Prim.Native.Nat.{◌*◌, ◌+◌, ◌<◌, ◌≤◌, suc, zero, ℕ}
use mathlib.Core.List.{List, [], ◌∷◌}
use mathlib.Core.Path.{◌≡◌, fun_ext, refl}
use lib.ListN.{get_or, length}
use native.Mathlib.Nat.{add-zero}
use native.Mathlib.Omega.{arith}
use Rattle.meaning.specs.Model.{facts_from, facts_of, facts_refusal, model_refusal}
use Rattle.meaning.specs.Operations.{compliance, equality, input_refusal, model_check, possibility, read_policy}
use Rattle.meaning.specs.Operations.{read_second_policy, read_vocabulary}
use Rattle.meaning.specs.Policy.{chain_from, policy_of, policy_refusal, terms_from, walk}
use Rattle.meaning.specs.Reached.{ReachedAxiom, ReachedFact, ReachedRecord, Same, SameCounts, SameModel, SamePolicy}
use Rattle.meaning.specs.Reached.{SameRecord, SameVocabulary, axiom_by_header, axiom_by_next, fact_by_header, fact_by_next}
use Rattle.meaning.specs.Reached.{record_by_child, record_by_header, record_by_next}
use Rattle.meaning.specs.Vocabulary.{axioms_from, axioms_of, axioms_refusal, vocabulary_of, vocabulary_refusal}

-- words 0 to n of record k are equal, one equation each
abbrev Words : ℕ → List ℕ → List ℕ → ℕ → ℕ → Type 0
Words width l l' k zero = get_or l (width * k) 0 ≡ get_or l' (width * k) 0
Words width l l' k (suc n) = Words width l l' k n × (get_or l (width * k + suc n) 0 ≡ get_or l' (width * k + suc n) 0)

words : (width : ℕ) (l l' : List ℕ) (k n : ℕ) → SameRecord width l l' k → n < width → Words width l l' k n
words width l l' k zero s h = rw (add-zero (width * k)) at (s 0 h)
words width l l' k (suc n) s h = (words width l l' k n s (omega arith), s (suc n) h)

-- the words that a step at record k looks at: the header's and its own
abbrev Agree : ℕ → List ℕ → List ℕ → ℕ → Type 0
Agree w l l' k = Words (suc w) l l' 0 w × Words (suc w) l l' k w

module _ {w : ℕ} {R : ℕ → Type 0} {l l' : List ℕ} (S : Same (suc w) R l l') where
  agree : {k : ℕ} → R k → Agree w l l' k
  agree {k} r = (words (suc w) l l' 0 w S.headers (omega arith), words (suc w) l l' k w (S.records r) (omega arith))

  -- induction on the fuel: what holds without fuel, at a chain's end, and at a reached record when it holds after its links,
  -- holds wherever a link leads
  along : (P : ℕ → ℕ → Type 0) → ((k : ℕ) → P 0 k) → ((f : ℕ) → P (suc f) 0) →
      ((f k : ℕ) → Agree w l l' k → R k → 1 ≤ k → ((j : ℕ) → R j → P f j) → P (suc f) k) → (f k : ℕ) → R k → P f k
  along P empty ended step zero k r = empty k
  along P empty ended step (suc f) zero r = ended f
  along P empty ended step (suc f) (suc j) r = step f (suc j) (agree r) r (omega arith) (along P empty ended step f)

-- the vocabulary: what is refused of it, what it states, and its counts
module _ {v v' : List ℕ} (S : SameVocabulary v v') where
  axioms_refused : (f k : ℕ) → ReachedAxiom v k → axioms_refusal f v k ≡ axioms_refusal f v' k
  axioms_refused = along S _ (λ k. refl) (λ f. refl) (λ f k same r o on. let next = on _ (axiom_by_next r o) in cc)

  axioms_read : (f k : ℕ) → ReachedAxiom v k → axioms_from f v k ≡ axioms_from f v' k
  axioms_read = along S _ (λ k. refl) (λ f. refl) (λ f k same r o on. let next = on _ (axiom_by_next r o) in cc)

  axioms_same : axioms_of v ≡ axioms_of v'
  unfolding axioms_of
  axioms_same = let same = agree S axiom_by_header in let chain = axioms_read (length v) _ axiom_by_header in cc

  pub vocabulary_refused : vocabulary_refusal v ≡ vocabulary_refusal v'
  unfolding vocabulary_refusal
  vocabulary_refused = let same = agree S axiom_by_header in let chain = axioms_refused (length v) _ axiom_by_header in cc axioms_same

  pub vocabulary_read : vocabulary_of v ≡ vocabulary_of v'
  unfolding vocabulary_of
  vocabulary_read = let same = agree S axiom_by_header in cc axioms_same

  pub counted : SameCounts v v'
  counted = let same = agree S axiom_by_header in record { classes = cc; roles = cc; features = cc }

-- a policy: what is refused of it, by the vocabulary's counts alone, and its terms
module _ {p p' : List ℕ} (S : SamePolicy p p') where
  walked : {v v' : List ℕ} → SameCounts v v' → (f k : ℕ) → ReachedRecord p k → (depth : ℕ) (seen : List ℕ) → walk f v p depth k seen ≡ walk f v' p' depth k seen
  unfolding walk
  walked C =
      along S _ (λ k d s. refl) (λ f d s. refl) (λ f k same r o on d s.
      let child = on _ (record_by_child r o) (suc d) (k ∷ s) in
      let next = fun_ext (λ t. on _ (record_by_next r o) d t) in
      cc)

  chain_read : (f k : ℕ) → ReachedRecord p k → chain_from f p k ≡ chain_from f p' k
  chain_read =
      along S _ (λ k. refl) (λ f. refl) (λ f k same r o on.
      let child = on _ (record_by_child r o) in
      let next = on _ (record_by_next r o) in
      cc)

  terms_read : (f k : ℕ) → ReachedRecord p k → terms_from f p k ≡ terms_from f p' k
  terms_read =
      along S _ (λ k. refl) (λ f. refl) (λ f k same r o on.
      let child = chain_read (length p) _ (record_by_child r o) in
      let next = on _ (record_by_next r o) in
      cc)

  pub policy_refused : {v v' : List ℕ} → SameCounts v v' → policy_refusal v p ≡ policy_refusal v' p'
  unfolding policy_refusal
  policy_refused C = let same = agree S record_by_header in let chain = walked C (length p) _ record_by_header 0 [] in cc

  pub policy_read : policy_of p ≡ policy_of p'
  unfolding policy_of
  policy_read = let same = agree S record_by_header in let chain = terms_read (length p) _ record_by_header in cc

-- a model: what is refused of it, by the vocabulary's counts alone, and its facts
module _ {m m' : List ℕ} (S : SameModel m m') where
  facts_refused : {v v' : List ℕ} → SameCounts v v' → (f k : ℕ) → ReachedFact m k → facts_refusal f v m k ≡ facts_refusal f v' m' k
  facts_refused C = along S _ (λ k. refl) (λ f. refl) (λ f k same r o on. let next = on _ (fact_by_next r o) in cc)

  facts_read : (f k : ℕ) → ReachedFact m k → facts_from f m k ≡ facts_from f m' k
  facts_read = along S _ (λ k. refl) (λ f. refl) (λ f k same r o on. let next = on _ (fact_by_next r o) in cc)

  pub model_refused : {v v' : List ℕ} → SameCounts v v' → model_refusal v m ≡ model_refusal v' m'
  unfolding model_refusal
  model_refused C = let same = agree S fact_by_header in let chain = facts_refused C (length m) _ fact_by_header in cc

  pub model_read : facts_of m ≡ facts_of m'
  unfolding facts_of
  model_read = let same = agree S fact_by_header in let chain = facts_read (length m) _ fact_by_header in cc

-- the operations
module _ {v v' : List ℕ} (S : SameVocabulary v v') where
  pub read_vocabulary_same : read_vocabulary v ≡ read_vocabulary v'
  unfolding read_vocabulary
  read_vocabulary_same = cc (vocabulary_refused S)

  module _ {p p' : List ℕ} (P : SamePolicy p p') where
    pub read_policy_same : read_policy v p ≡ read_policy v' p'
    unfolding read_policy
    read_policy_same = cc (vocabulary_refused S, policy_refused P (counted S))

    pub read_second_policy_same : read_second_policy v p ≡ read_second_policy v' p'
    unfolding read_second_policy
    read_second_policy_same = cc (vocabulary_refused S, policy_refused P (counted S))

    pub possibility_same : (w : ℕ) → possibility v p w ≡ possibility v' p' w
    unfolding possibility
    possibility_same w = cc (vocabulary_refused S, policy_refused P (counted S), vocabulary_read S, policy_read P)

    module _ {q q' : List ℕ} (Q : SamePolicy q q') where
      input_refused : input_refusal v p q ≡ input_refusal v' p' q'
      unfolding input_refusal
      input_refused = cc (vocabulary_refused S, policy_refused P (counted S), policy_refused Q (counted S))

      pub compliance_same : (w o : ℕ) → compliance v p q w o ≡ compliance v' p' q' w o
      unfolding compliance
      compliance_same w o = let counts = counted S in cc (input_refused, vocabulary_read S, policy_read P, policy_read Q)

      pub equality_same : (w o : ℕ) → equality v p q w o ≡ equality v' p' q' w o
      unfolding equality
      equality_same w o = let counts = counted S in cc (input_refused, vocabulary_read S, policy_read P, policy_read Q)

      pub model_check_same : {m m' : List ℕ} → SameModel m m' → (w : ℕ) → model_check v p q m w ≡ model_check v' p' q' m' w
      unfolding model_check
      model_check_same M w =
          cc (input_refused, model_refused M (counted S), model_read M, vocabulary_read S, policy_read P, policy_read Q)
