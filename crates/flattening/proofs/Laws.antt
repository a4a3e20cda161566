-- The flat vocabulary of an accepted one: its words, that it is accepted, and what it says. Assumes nothing.
use Prim.Native.Nat.{◌%◌, ◌*◌, ◌+◌, ◌-◌, ◌<◌, ◌≤◌, suc, zero, ℕ}
use mathlib.Core.Bool.{cond}
use mathlib.Core.List.{List, map}
use mathlib.Core.Logic.{⊎_elim}
use mathlib.Core.Path.{◌∙◌, ◌≡◌, ap, refl, sym}
use lib.Dec.{eqb}
use lib.ListN.{get_or-eq_default, get_or, length}
use native.Mathlib.Omega.{arith}
use borrow.Author.Tests.{eq-eqb, le-leb}
use Rattle.flattening.proofs.Steps.{word_beside, word_early}
use Rattle.flattening.specs.Flat.{flat_word_at, flat_words}
use Rattle.meaning.specs.Accepted.{ChainOf}
use Rattle.meaning.specs.Lists.{counting}
use Rattle.meaning.specs.NormalForm.{normal_form}
use Rattle.meaning.specs.Policy.{Chain}
use Rattle.meaning.specs.Stated.{is_below}
use Rattle.meaning.specs.Vocabulary.{axiom_kind, axiom_left, axiom_right, class_count, feature_count, role_count, vocabulary_of}
use Rattle.meaning.specs.Vocabulary.{vocabulary_refusal}
use Rattle.spelling.proofs.Flattened.{Flat, flat_accepted, flat_vocabulary, flattened, flattened_below, flattened_normal}
use Rattle.theory.proofs.Wellformed.{accepted_size}
use Rattle.theory.proofs.Rules.{order}

-- ---- the words

counted_length : (f : ℕ → ℕ) (o n : ℕ) → length (map f (counting o n)) ≡ n
counted_length f o zero = refl
counted_length f o (suc n) = ap suc (counted_length f (suc o) n)

counted_at : (f : ℕ → ℕ) (o n i : ℕ) → i < n → get_or (map f (counting o n)) i 0 ≡ f (o + i)
counted_at f o zero i l = absurd (omega arith)
counted_at f o (suc n) zero l = ap f (omega arith)
counted_at f o (suc n) (suc i) l = counted_at f (suc o) n i (omega arith) ∙ ap f (omega arith)

module _ (v : List ℕ) where
  length_flat : length (flat_words v) ≡ length v
  unfolding flat_words
  length_flat = counted_length (flat_word_at v) 0 (length v)

  flat_at : (i : ℕ) → i < length v → get_or (flat_words v) i 0 ≡ flat_word_at v i
  unfolding flat_words
  flat_at i l = counted_at (flat_word_at v) 0 (length v) i l ∙ ap (flat_word_at v) (omega arith)

  flat_past : (i : ℕ) → length v ≤ i → get_or (flat_words v) i 0 ≡ 0
  flat_past i l = let e = length_flat in get_or-eq_default (flat_words v) 0 (omega arith)

  -- a word that is no second name stays
  word_stays : (i : ℕ) → get_or v i 0 ≡ flat_word_at v i → get_or (flat_words v) i 0 ≡ get_or v i 0
  word_stays i e = ⊎_elim (λ l. flat_at i l ∙ sym e) (λ l. flat_past i l ∙ sym (get_or-eq_default v 0 l)) (order i (length v))

  header_stays : (i : ℕ) → i < 4 → get_or (flat_words v) i 0 ≡ get_or v i 0
  header_stays i l = word_stays i (word_early v i l)

  beside_stays : (i : ℕ) → (i % 4 ≡ 2 → ⊥) → get_or (flat_words v) i 0 ≡ get_or v i 0
  beside_stays i n = word_stays i (⊎_elim (λ l. word_early v i l) (λ l. word_beside v i l n) (order i 4))

  second_first : length v % 4 ≡ 0 → (k : ℕ) → (k ≡ 0 → ⊥) → axiom_right (flat_words v) k ≡ cond (eqb (axiom_kind v k) 1) (axiom_left v k) (axiom_right v k)
  unfolding flat_word_at
  second_first m k n = ⊎_elim (λ l. flat_at (4 * k + 2) l ∙ inside) past (order (4 * k + 2) (length v))
    where
      inside : flat_word_at v (4 * k + 2) ≡ cond (eqb (axiom_kind v k) 1) (axiom_left v k) (axiom_right v k)
      inside =
          let a : 4 * k + 2 - 2 ≡ 4 * k = omega arith in
          let b : 4 * k + 2 - 1 ≡ 4 * k + 1 = omega arith in
          rw (le-leb 4 (4 * k + 2) (omega arith), eq-eqb ((4 * k + 2) % 4) 2 (omega arith), a, b)

      past : length v ≤ 4 * k + 2 → axiom_right (flat_words v) k ≡ cond (eqb (axiom_kind v k) 1) (axiom_left v k) (axiom_right v k)
      past l =
          flat_past (4 * k + 2) l
          ∙ rw (get_or-eq_default v 0 {n = 4 * k} (omega arith), get_or-eq_default v 0 {n = 4 * k + 2} l)

  -- ---- what is the same

  pub flat_counts : (class_count (flat_words v) ≡ class_count v) × (role_count (flat_words v) ≡ role_count v) × (feature_count (flat_words v) ≡ feature_count v)
  flat_counts = (header_stays 0 (omega arith), header_stays 1 (omega arith), header_stays 2 (omega arith))

  pub flat_chain : (c : Chain) → ChainOf v c → ChainOf (flat_words v) c
  flat_chain c h = let s = flat_counts in rw (s.0, s.1, s.2) h

  module _ (a : vocabulary_refusal v ≡ 0) where
    pub flat_words_lem : Flat v (flat_words v)
    flat_words_lem = record {
      long = length_flat;
      header = header_stays;
      kind = λ k. beside_stays (4 * k) (λ e. omega arith);
      left = λ k. beside_stays (4 * k + 1) (λ e. omega arith);
      next = λ k. beside_stays (4 * k + 3) (λ e. omega arith);
      right = second_first (accepted_size v a).0;
    }

    flat : vocabulary_of (flat_words v) ≡ flattened (vocabulary_of v)
    flat = flat_vocabulary v (flat_words v) flat_words_lem

    pub flat_refusal : vocabulary_refusal (flat_words v) ≡ 0
    flat_refusal = flat_accepted v (flat_words v) flat_words_lem a

    pub flat_normal : (c : Chain) → normal_form (vocabulary_of (flat_words v)) c ≡ normal_form (vocabulary_of v) c
    flat_normal c = rw flat (flattened_normal (vocabulary_of v) c)

    pub flat_below : (x y : ℕ) → is_below (vocabulary_of (flat_words v)) x y ≡ eqb x y
    flat_below x y = rw flat (flattened_below (vocabulary_of v) x y)
