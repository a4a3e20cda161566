-- The seed after several draws, and how many words each part of a load takes. Assumes nothing.
use Prim.Native.Nat.{◌*◌, ◌+◌, ◌-◌, ◌≤◌, suc, zero, ℕ}
use mathlib.Core.List.{[], ◌++◌, ◌∷◌}
use mathlib.Core.Path.{◌≡◌, refl}
use lib.ListN.{length, length-append}
use native.Mathlib.Nat.{suc-add, zero-add}
use native.Mathlib.Omega.{arith}
use Rattle.meaning.specs.Accepted.{total}
use Rattle.meaning.specs.PolicyWords.{policy_words}
use Rattle.meaning.specs.Vocabulary.{functional_feature}
use Rattle.rehearsal.specs.Drawing.{load_size}
use Rattle.rehearsal.specs.Load.{advance, advance_by, counted, first_part, load, load_policy, load_vocabulary, hierarchy, second_part, vocabulary_part}
use Rattle.theory.proofs.PolicyWords.{policy_length}
use Rattle.theory.proofs.VocabularyWords.{vocabulary_length}

pub advance_add : (i j s : ℕ) → advance_by (i + j) s ≡ advance_by j (advance_by i s)
advance_add zero j s = rw zero-add
advance_add (suc i) j s = rw suc-add (advance_add i j (advance s))

pub three_more : (n s : ℕ) → advance_by (3 * suc n) s ≡ advance_by (3 * n) (advance_by 3 s)
three_more n s = let e : 3 * suc n ≡ suc (suc (suc (3 * n))) = omega arith in rw e

-- ---- sizes

pub hierarchy_length : (s k n : ℕ) → length (hierarchy s k n ++ (functional_feature 1 ∷ [])) ≡ n + 1
hierarchy_length s k zero = refl
hierarchy_length s k (suc n) = omega (arith, hierarchy_length (advance s) (suc k) n)

pub terms_total : (s N m : ℕ) → total (load_policy s N m) ≡ 3 * m
terms_total s N zero = refl
terms_total s N (suc m) = omega (arith, terms_total (advance_by 3 s) N m)

pub vocabulary_size_lem : (s N : ℕ) → 1 ≤ N → length (vocabulary_part s N) ≡ 4 * (N + 1)
unfolding load_vocabulary
vocabulary_size_lem s N h = omega (arith, vocabulary_length (load_vocabulary s N), hierarchy_length s 2 (N - 1))

pub policy_size : (s N m : ℕ) → length (policy_words (load_policy s N m)) ≡ 6 * (3 * m + 1)
policy_size s N m = omega (arith, policy_length (load_policy s N m), terms_total s N m)

pub load_length : (s N m : ℕ) → 1 ≤ N → length (load s N m) ≡ load_size N m
unfolding load
load_length s N m h =
    let v = vocabulary_part s N in
    let p = first_part s N m in
    let q = second_part s N m in
    omega (
      arith,
      length-append (counted v) (counted p ++ counted q),
      length-append (counted p) (counted q),
      vocabulary_size_lem s N h,
      policy_size (advance_by (N - 1) s) N m,
      policy_size (advance_by (N - 1 + 3 * m) s) N m,
    )
