-- The vocabulary's records drawn one after another. Assumes nothing.
use Prim.Native.Nat.{◌*◌, ◌+◌, ◌-◌, ◌<◌, ◌≤◌, suc, zero, ℕ}
use mathlib.Core.List.{List, [], ◌++◌, ◌∷◌}
use mathlib.Core.Path.{◌∙◌, ◌≡◌, ap, refl, sym}
use lib.ListN.{length}
use native.Mathlib.Omega.{arith}
use Rattle.frames.proofs.Puts.{Rest, rest_end, rest_more, rest_start}
use Rattle.frames.specs.Rows.{Put}
use Rattle.meaning.specs.Records.{chained_words, link_to}
use Rattle.meaning.specs.Vocabulary.{Axiom, axiom_words, functional_feature}
use Rattle.rehearsal.proofs.Seeds.{hierarchy_length}
use Rattle.rehearsal.specs.Load.{advance, advance_by, draw, load_vocabulary, hierarchy}
use Rattle.theory.proofs.Chained.{chained_length}
use Rattle.theory.proofs.VocabularyWords.{axiom_length}

-- the last record
abbrev pub feature : List Axiom
feature = functional_feature 1 ∷ []

-- the words of n classes' records from record j on, and of the last
abbrev pub words_from : ℕ → ℕ → ℕ → List ℕ
words_from s j n = chained_words axiom_words j (hierarchy s (suc j) n ++ feature)

words_size : (s j n : ℕ) → length (words_from s j n) ≡ 4 * (n + 1)
words_size s j n = chained_length 4 axiom_words axiom_length j (hierarchy s (suc j) n ++ feature) ∙ ap (λ (i : ℕ). 4 * i) (hierarchy_length s (suc j) n)

-- each links to the next, since the feature's follows
pub link_some : (k : ℕ) (l : List Axiom) → link_to k (l ++ feature) ≡ k
link_some k [] = refl
link_some k (x ∷ l) = refl

pub words_more : (s j n : ℕ) → words_from s j (suc n) ≡ (1 ∷ (suc j ∷ ((1 + draw s j) ∷ (suc j ∷ [])))) ++ words_from (advance s) (suc j) n
words_more s j n =
    let e : suc j - 1 ≡ j = omega arith in
    rw (link_some (suc j) (hierarchy (advance s) (suc (suc j)) n), e)

-- ---- the loop: class k is next, and n classes are left with it

pub record AxiomsLeft (o₀ : List ℕ) (N at₀ s₀ : ℕ) (o : List ℕ) (at s k : ℕ) : Type 0 where
  pub j : ℕ
  pub n : ℕ
  pub number : k ≡ suc j
  pub some : 1 ≤ j
  pub count : k + n ≡ N + 1
  pub rest : Rest o₀ at₀ (words_from s₀ 1 (N - 1)) o at (words_from s j n)
  pub seed : advance_by n s ≡ advance_by (N - 1) s₀

pub axioms_start : (o : List ℕ) (N at s : ℕ) → 1 ≤ N → AxiomsLeft o N at s o at s 2
axioms_start o N at s h = record {
  j = 1;
  n = N - 1;
  number = refl;
  some = omega arith;
  count = omega arith;
  rest = rest_start o at (words_from s 1 (N - 1));
  seed = refl;
}

module _ {o₀ : List ℕ} {N at₀ s₀ : ℕ} {o : List ℕ} {at s k : ℕ} (g : AxiomsLeft o₀ N at₀ s₀ o at s k) (named : 1 ≤ N) (room : at₀ + 4 * N ≤ length o₀) where
  -- the next record has room
  pub axioms_room : at + 4 ≤ length o
  axioms_room =
      omega (arith, g.rest.ends, g.rest.size, words_size s g.j g.n, words_size s₀ 1 (N - 1))

  pub axioms_more : {s' c : ℕ} {o' : List ℕ} {at' : ℕ} → k < N + 1 → s' ≡ advance s → c ≡ 1 + draw s (k - 1) →
      Put o at (1 ∷ (k ∷ (c ∷ (k ∷ [])))) o' at' → AxiomsLeft o₀ N at₀ s₀ o' at' s' (k + 1)
  axioms_more {s'} {c} {o'} {at'} h e f p = go g.n refl
    where
      go : (n : ℕ) → g.n ≡ n → AxiomsLeft o₀ N at₀ s₀ o' at' s' (k + 1)
      go zero z = absurd (omega (arith, g.count))
      go (suc n) z =
          let j = g.j in
          let i : k - 1 ≡ j = omega (arith, g.number) in
          let words : words_from s j g.n ≡ (1 ∷ (k ∷ (c ∷ (k ∷ [])))) ++ words_from s' (suc j) n = rw (z, f, i, e, g.number) (words_more s j n) in
          record {
            j = suc j;
            n = n;
            number = omega (arith, g.number);
            some = omega arith;
            count = omega (arith, g.count);
            rest = rest_more g.rest (1 ∷ (k ∷ (c ∷ (k ∷ [])))) (words_from s' (suc j) n) words p;
            seed = rw e (ap (λ (m : ℕ). advance_by m s) (sym z) ∙ g.seed);
          }

  -- all classes are done: the feature's record is the last
  pub axioms_put : {o' : List ℕ} {at' : ℕ} → N + 1 ≤ k → Put o at (4 ∷ (1 ∷ (0 ∷ (0 ∷ [])))) o' at' →
      Put o₀ at₀ (chained_words axiom_words 1 (load_vocabulary s₀ N).axioms) o' at'
  unfolding load_vocabulary
  axioms_put h p =
      let z : g.n ≡ 0 = omega (arith, g.count) in
      let words : words_from s g.j g.n ≡ (4 ∷ (1 ∷ (0 ∷ (0 ∷ [])))) ++ [] = rw z in
      rest_end (rest_more g.rest (4 ∷ (1 ∷ (0 ∷ (0 ∷ [])))) [] words p) refl

  pub axioms_seed : N + 1 ≤ k → s ≡ advance_by (N - 1) s₀
  axioms_seed h = let z : g.n ≡ 0 = omega (arith, g.count) in rw z at g.seed
