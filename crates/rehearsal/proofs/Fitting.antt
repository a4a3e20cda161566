-- The words of a load are words: each is below 2 to the power of 32. Assumes nothing.
use Prim.Native.Nat.{◌*◌, ◌+◌, ◌-◌, ◌<◌, ◌≤◌, suc, zero, ℕ}
use mathlib.Core.List.{List, ◌∷◌}
use lib.ListN.{length}
use native.Mathlib.Nat.{mod-lt}
use native.Mathlib.Omega.{arith}
use Rattle.meaning.specs.Limits.{most_classes}
use Rattle.meaning.specs.Lists.{All, cons, nil}
use Rattle.meaning.specs.PolicyWords.{policy_words, term_words}
use Rattle.meaning.specs.Records.{Name, link_to}
use Rattle.meaning.specs.Vocabulary.{vocabulary_words}
use Rattle.rehearsal.proofs.Axioms.{link_some, words_more, words_from}
use Rattle.rehearsal.proofs.Seeds.{policy_size, vocabulary_size_lem}
use Rattle.rehearsal.specs.Load.{advance, advance_by, counted, draw, load, load_policy, load_vocabulary, most_terms, hierarchy, vocabulary_part}
use Rattle.theory.proofs.Rules.{all_append}

abbrev pub Word : ℕ → Type 0
Word w = w < 4294967296

-- so many in front of others
one : (a : ℕ) {l : List ℕ} → Word a → All Word l → All Word (a ∷ l)
one a h t = cons {x = a} h t

four : (a b c d : ℕ) {l : List ℕ} → Word a → Word b → Word c → Word d → All Word l → All Word (a ∷ (b ∷ (c ∷ (d ∷ l))))
four a b c d h i j k t = one a h (one b i (one c j (one d k t)))

six : (a b c d e f : ℕ) {l : List ℕ} → Word a → Word b → Word c → Word d → Word e → Word f → All Word l →
    All Word (a ∷ (b ∷ (c ∷ (d ∷ (e ∷ (f ∷ l))))))
six a b c d e f h i j k m n t = one a h (one b i (four c d e f j k m n t))

drawn_small : (s n : ℕ) → Name most_classes n → draw s n < most_classes
drawn_small s n h = omega (arith, mod-lt (advance s) {m = n} (omega arith), h.1)

axioms_fit : (s j n : ℕ) → 1 ≤ j → suc j + n ≤ suc most_classes → All Word (words_from s j n)
axioms_fit s j zero h g = four 4 1 0 0 (omega arith) (omega arith) (omega arith) (omega arith) nil
axioms_fit s j (suc n) h g =
    let d = drawn_small s j (h, omega arith) in
    rw (words_more s j n)
    (four 1 (suc j) (1 + draw s j) (suc j) (omega arith) (omega arith) (omega arith) (omega arith) (axioms_fit (advance s) (suc j) n (omega arith) (omega arith)))

link_small : (s N k n : ℕ) → k ≤ 1000 → Word (link_to k (load_policy s N n))
link_small s N k zero h = omega arith
link_small s N k (suc n) h = omega arith

module _ (N : ℕ) (named : Name most_classes N) where
  terms_fit : (s k m : ℕ) → k + 3 * m ≤ 900 → All Word (term_words k (load_policy s N m))
  terms_fit s k zero h = nil
  terms_fit s k (suc m) h =
      let a = drawn_small s N named in
      let lo = mod-lt (advance (advance_by 1 s)) {m = 100} (omega arith) in
      let hi = mod-lt (advance (advance_by 2 s)) {m = 100} (omega arith) in
      six 5 0 0 0 (suc k) (link_to (suc k + 2) (load_policy (advance_by 3 s) N m)) (omega arith) (omega arith) (omega arith) (omega arith) (omega arith)
      (link_small (advance_by 3 s) N (suc k + 2) m (omega arith))
      (six 1 (1 + draw s N) 0 0 0 (suc (suc k)) (omega arith) (omega arith) (omega arith) (omega arith) (omega arith) (omega arith)
      (six 4 1 (draw (advance_by 1 s) 100) (draw (advance_by 1 s) 100 + draw (advance_by 2 s) 100) 0 0 (omega arith) (omega arith) (omega arith) (omega arith) (omega arith) (omega arith)
      (terms_fit (advance_by 3 s) (suc k + 2) m (omega arith))))

  vocabulary_fits : (s : ℕ) → All Word (counted (vocabulary_part s N))
  unfolding vocabulary_words load_vocabulary
  vocabulary_fits s =
      one (length (vocabulary_part s N)) (omega (arith, vocabulary_size_lem s N named.0, named.1))
      (rw (link_some 1 (hierarchy s 2 (N - 1)))
      (four N 0 1 1 (omega arith) (omega arith) (omega arith) (omega arith) (axioms_fit s 1 (N - 1) (omega arith) (omega arith))))

  policy_fits : (s m : ℕ) → m ≤ most_terms → All Word (counted (policy_words (load_policy s N m)))
  unfolding policy_words
  policy_fits s m h =
      one (length (policy_words (load_policy s N m))) (omega (arith, policy_size s N m))
      (six (link_to 1 (load_policy s N m)) 0 0 0 0 0 (link_small s N 1 m (omega arith)) (omega arith) (omega arith) (omega arith) (omega arith) (omega arith)
      (terms_fit s 1 m (omega arith)))

  pub load_fits : (s m : ℕ) → m ≤ most_terms → All Word (load s N m)
  unfolding load
  load_fits s m h = all_append (vocabulary_fits s) (all_append (policy_fits (advance_by (N - 1) s) m h) (policy_fits (advance_by (N - 1 + 3 * m) s) m h))
