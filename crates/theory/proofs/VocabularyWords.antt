-- A vocabulary's words say what it says, and Read vocabulary accepts them.
use Prim.Native.Nat.{◌*◌, ◌≤◌, ℕ}
use mathlib.Core.Bool.{false, true}
use mathlib.Core.List.{List, ◌++◌}
use mathlib.Core.Path.{◌∙◌, ◌≡◌, ap, refl}
use lib.ListN.{drop, get_or, length}
use native.Mathlib.Nat.{add-zero}
use native.Mathlib.Omega.{arith}
use Rattle.meaning.specs.Accepted.{AxiomOf, NamedAxiom}
use Rattle.meaning.specs.Answers.{accepted, result}
use Rattle.meaning.specs.Limits.{most_axioms, most_classes, most_features, most_roles}
use Rattle.meaning.specs.Lists.{All}
use Rattle.meaning.specs.Operations.{read_vocabulary}
use Rattle.meaning.specs.Records.{last_of, link_to}
use Rattle.meaning.specs.Vocabulary.{Axiom, Vocabulary, axiom_at, axiom_fits, axiom_kind, axiom_next, axiom_words, axioms_of, below}
use Rattle.meaning.specs.Vocabulary.{disjoint, functional_feature, functional_role, is_opposed, many_feature, many_role, range, vocabulary_of}
use Rattle.meaning.specs.Vocabulary.{vocabulary_refusal, vocabulary_size, vocabulary_words}
use Rattle.theory.proofs.Chained.{Stated, chained_length, chained_read, chained_sound, link_onward, record_after, word_at_lem}
use Rattle.theory.proofs.Links.{onward_le, tests}
use Rattle.theory.proofs.Wellformed.{sound_vocabulary}

pub axiom_length : (x : Axiom) (next : ℕ) → length (axiom_words x next) ≡ 4
axiom_length (below a b) next = refl
axiom_length (disjoint a b) next = refl
axiom_length (functional_role r) next = refl
axiom_length (functional_feature f) next = refl
axiom_length (range r c) next = refl
axiom_length (many_role r) next = refl
axiom_length (many_feature f) next = refl

pub vocabulary_length : (K : Vocabulary) → length (vocabulary_words K) ≡ vocabulary_size K
unfolding vocabulary_words
vocabulary_length K = rw (chained_length 4 axiom_words axiom_length 1 K.axioms) (omega arith)

-- ---- record k of the words v

module _ (v : List ℕ) (k : ℕ) where
  kind : {l : List ℕ} → drop (4 * k) v ≡ l → axiom_kind v k ≡ get_or l 0 0
  kind e = rw add-zero at (word_at_lem 4 v k e 0)

  stated : (x : Axiom) (next : ℕ) (l : List ℕ) → drop (4 * k) v ≡ axiom_words x next ++ l → Stated 4 (axiom_next v) (axiom_at v) v k x next l
  stated (below a b) next l e = record { is = simp (kind e, word_at_lem 4 v k e); links = word_at_lem 4 v k e 3; rest = record_after 4 v k e }
  stated (disjoint a b) next l e = record { is = simp (kind e, word_at_lem 4 v k e); links = word_at_lem 4 v k e 3; rest = record_after 4 v k e }
  stated (functional_role r) next l e = record { is = simp (kind e, word_at_lem 4 v k e); links = word_at_lem 4 v k e 3; rest = record_after 4 v k e }
  stated (functional_feature f) next l e = record { is = simp (kind e, word_at_lem 4 v k e); links = word_at_lem 4 v k e 3; rest = record_after 4 v k e }
  stated (range r c) next l e = record { is = simp (kind e, word_at_lem 4 v k e); links = word_at_lem 4 v k e 3; rest = record_after 4 v k e }
  stated (many_role r) next l e = record { is = simp (kind e, word_at_lem 4 v k e); links = word_at_lem 4 v k e 3; rest = record_after 4 v k e }
  stated (many_feature f) next l e = record { is = simp (kind e, word_at_lem 4 v k e); links = word_at_lem 4 v k e 3; rest = record_after 4 v k e }

  fits : (x : Axiom) (next : ℕ) (l : List ℕ) → drop (4 * k) v ≡ axiom_words x next ++ l → AxiomOf v x → axiom_fits v k ≡ true
  fits (below a b) next l e h = simp (kind e, word_at_lem 4 v k e, tests) (omega arith)
  fits (disjoint a b) next l e h = simp (kind e, word_at_lem 4 v k e, tests) (omega arith)
  fits (functional_role r) next l e h = simp (kind e, word_at_lem 4 v k e, tests) (omega arith)
  fits (functional_feature f) next l e h = simp (kind e, word_at_lem 4 v k e, tests) (omega arith)
  fits (range r c) next l e h = simp (kind e, word_at_lem 4 v k e, tests) (omega arith)
  fits (many_role r) next l e h = simp (kind e, word_at_lem 4 v k e, tests) (omega arith)
  fits (many_feature f) next l e h = simp (kind e, word_at_lem 4 v k e, tests) (omega arith)

-- ---- the whole

pub vocabulary_words_read : (K : Vocabulary) → vocabulary_of (vocabulary_words K) ≡ K
unfolding vocabulary_of axioms_of vocabulary_words
vocabulary_words_read K =
    let v = vocabulary_words K in
    rw (chained_read 4 axiom_words v (axiom_next v) (axiom_at v) (stated v) (length v) 0 K.axioms refl (omega (arith, vocabulary_length K)))

module _ (K : Vocabulary) (some : 1 ≤ K.classes) (h₁ : K.classes ≤ most_classes) (h₂ : K.roles ≤ most_roles) (h₃ : K.features ≤ most_features)
    (few : length K.axioms ≤ most_axioms) (named : All (NamedAxiom K.classes K.roles K.features) K.axioms)
    (apart : is_opposed K.axioms ≡ false) where
  axioms_read : axioms_of (vocabulary_words K) ≡ K.axioms
  unfolding vocabulary_of
  axioms_read = ap (λ (L : Vocabulary). L.axioms) (vocabulary_words_read K)

  pub vocabulary_words_refusal : vocabulary_refusal (vocabulary_words K) ≡ 0
  unfolding vocabulary_words
  vocabulary_words_refusal =
      let v = vocabulary_words K in
      let long = vocabulary_length K in
      let first = onward_le (length K.axioms) 0 (link_to 1 K.axioms) (link_onward (length K.axioms) 0 K.axioms (omega arith)) in
      sound_vocabulary v (record {
        sized = simp tests (omega arith);
        headed = simp tests (omega arith);
        chain = chained_sound 4 axiom_words v (axiom_next v) (axiom_at v) (stated v) (last_of 4 v) 3 (axiom_fits v)
            (NamedAxiom K.classes K.roles K.features) (fits v) (length v) 0 K.axioms refl (omega arith) named;
        apart = ap is_opposed axioms_read ∙ apart;
      })

  pub vocabulary_words_accepted : read_vocabulary (vocabulary_words K) ≡ result accepted
  unfolding read_vocabulary
  vocabulary_words_accepted = rw vocabulary_words_refusal
