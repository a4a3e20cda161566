-- What is drawn has names of its series, and is as small as a table may be: the readers accept it. Assumes nothing.
use Prim.Native.Nat.{◌%◌, ◌+◌, ◌-◌, ◌≤◌, suc, zero, ℕ}
use mathlib.Core.Bool.{◌||◌, false}
use mathlib.Core.List.{List, [], ◌++◌, ◌∷◌}
use mathlib.Core.Path.{◌∙◌, ◌≡◌, ap₂, refl}
use lib.Dec.{eqb}
use native.Mathlib.Nat.{mod-lt}
use native.Mathlib.Omega.{arith}
use Rattle.meaning.specs.Accepted.{NamedAxiom, NamedChain, depth}
use Rattle.meaning.specs.Limits.{most_classes, most_depth}
use Rattle.meaning.specs.Lists.{All, any, cons, nil}
use Rattle.meaning.specs.Policy.{policy_refusal}
use Rattle.meaning.specs.PolicyWords.{policy_words}
use Rattle.meaning.specs.Records.{Name}
use Rattle.meaning.specs.Vocabulary.{below, functional_feature, is_named, is_opposed, names_by, vocabulary_refusal, vocabulary_words}
use Rattle.rehearsal.proofs.Axioms.{feature}
use Rattle.rehearsal.proofs.Seeds.{hierarchy_length, terms_total}
use Rattle.rehearsal.specs.Load.{advance, advance_by, draw, load_policy, load_term, load_vocabulary, most_terms, hierarchy, vocabulary_part}
use Rattle.theory.proofs.PolicyWords.{policy_words_accepted}
use Rattle.theory.proofs.VocabularyWords.{vocabulary_words_refusal}

-- 1 + draw(n) is a name of n
drawn_name : (s n : ℕ) → 1 ≤ n → Name n (1 + advance s % n)
drawn_name s n h = (omega arith, omega (arith, mod-lt (advance s) {m = n} (omega arith)))

-- ---- the vocabulary

hierarchy_named : (N s k n : ℕ) → 2 ≤ k → k + n ≤ N + 1 → All (NamedAxiom N 0 1) (hierarchy s k n ++ feature)
hierarchy_named N s k zero h g = let one : Name 1 1 = (omega arith, omega arith) in cons {x = functional_feature 1} one nil
hierarchy_named N s k (suc n) h g =
    let d = drawn_name s (k - 1) (omega arith) in
    let names : Name N k × Name N (1 + draw s (k - 1)) = ((omega arith, omega arith), (d.0, omega (arith, d.1))) in
    cons {x = below k (1 + draw s (k - 1))} names (hierarchy_named N (advance s) (suc k) n (omega arith) (omega arith))

-- only kinds 1 and 4 stand there
no_role : (s k n : ℕ) → names_by 3 (hierarchy s k n ++ feature) ≡ []
unfolding names_by
no_role s k zero = refl
no_role s k (suc n) = no_role (advance s) (suc k) n

no_many : (s k n : ℕ) → names_by 7 (hierarchy s k n ++ feature) ≡ []
unfolding names_by
no_many s k zero = refl
no_many s k (suc n) = no_many (advance s) (suc k) n

none : (l : List ℕ) → any (λ (x : ℕ). false) l ≡ false
none [] = refl
none (x ∷ l) = none l

not_opposed : (s k n : ℕ) → is_opposed (hierarchy s k n ++ feature) ≡ false
unfolding is_opposed is_named
not_opposed s k n =
    let l = hierarchy s k n ++ feature in
    ap₂ (λ (roles many : List ℕ). any (is_named 6 l) roles || any (λ (x : ℕ). any (eqb x) many) (names_by 4 l)) (no_role s k n) (no_many s k n) ∙ none (names_by 4 l)

module _ (N : ℕ) (named : Name most_classes N) where
  pub vocabulary_unrefused : (s : ℕ) → vocabulary_refusal (vocabulary_part s N) ≡ 0
  unfolding load_vocabulary
  vocabulary_unrefused s =
      vocabulary_words_refusal (load_vocabulary s N) named.0 named.1 (omega arith) (omega arith) (omega (arith, hierarchy_length s 2 (N - 1), named.1))
      (hierarchy_named N s 2 (N - 1) (omega arith) (omega arith)) (not_opposed s 2 (N - 1))

  -- ---- a policy

  terms_named : (s m : ℕ) → All (NamedChain N 0 1) (load_policy s N m)
  terms_named s zero = nil
  terms_named s (suc m) =
      let names : NamedChain N 0 1 (load_term s N) = (drawn_name s N named.0, ((omega arith, omega arith), tt)) in
      cons {x = load_term s N} names (terms_named (advance_by 3 s) m)

  terms_shallow : (s m : ℕ) → All (λ c. depth c ≤ most_depth) (load_policy s N m)
  terms_shallow s zero = nil
  terms_shallow s (suc m) = cons {x = load_term s N} (omega arith) (terms_shallow (advance_by 3 s) m)

  -- of any seeds: the vocabulary counts the names that the policy has
  pub policy_unrefused : (s t m : ℕ) → m ≤ most_terms → policy_refusal (vocabulary_part s N) (policy_words (load_policy t N m)) ≡ 0
  unfolding vocabulary_words load_vocabulary
  policy_unrefused s t m h =
      policy_words_accepted (vocabulary_part s N) (load_policy t N m) (terms_named t m) (omega (arith, terms_total t N m)) (terms_shallow t m)
