-- A part of a load: the count of its words, its header, its records. Assumes nothing.
use Prim.Native.Nat.{◌*◌, ◌+◌, ◌-◌, ◌<◌, ◌≤◌, suc, zero, ℕ}
use mathlib.Core.List.{List, [], ◌∷◌}
use mathlib.Core.Path.{◌≡◌, refl, subst, sym}
use lib.ListN.{length, set}
use native.Mathlib.Omega.{arith}
use Rattle.frames.proofs.Puts.{put_as, put_one, put_then}
use Rattle.frames.specs.Rows.{Put}
use Rattle.meaning.specs.Limits.{most_classes}
use Rattle.meaning.specs.PolicyWords.{policy_words, record_words, term_words}
use Rattle.meaning.specs.Records.{Name, chained_words}
use Rattle.meaning.specs.Vocabulary.{axiom_words, vocabulary_words}
use Rattle.rehearsal.proofs.Axioms.{link_some}
use Rattle.rehearsal.proofs.Seeds.{policy_size, vocabulary_size_lem}
use Rattle.rehearsal.specs.Drawing.{Drawn, Drawable}
use Rattle.rehearsal.specs.Load.{advance_by, counted, load_policy, load_vocabulary, hierarchy, vocabulary_part}
use Rattle.rehearsal.specs.declared.Cursor.{Cursor}

-- a count stored
count_put : {o o₁ : List ℕ} {at n : ℕ} → at < length o → o₁ ≡ set o at n → Put o at (n ∷ []) o₁ (at + 1)
count_put {o} {at = at} {n = n} h e = subst (λ (l : List ℕ). Put o at (n ∷ []) l (at + 1)) (sym e) (put_one o at n h)

pub vocabulary_put : {s N : ℕ} → Name most_classes N → {o o₁ o₂ o₃ : List ℕ} {at : ℕ} {r : Cursor} → 1 + 4 * (N + 1) ≤ length o → o₁ ≡ set o 0 (4 * (N + 1)) →
    Put o₁ 1 (N ∷ (0 ∷ (1 ∷ (1 ∷ [])))) o₂ at →
    Drawn o₂ (record { at = at; seed = s }) (chained_words axiom_words 1 (load_vocabulary s N).axioms) (advance_by (N - 1) s) o₃ r →
    Drawn o (record { at = 0; seed = s }) (counted (vocabulary_part s N)) (advance_by (N - 1) s) o₃ r
unfolding vocabulary_words load_vocabulary
vocabulary_put {s} {N} named {o} {o₁} room e p q =
    let count : Put o 0 (4 * (N + 1) ∷ []) o₁ 1 = count_put (omega arith) e in
    record {
      words = put_as (rw (vocabulary_size_lem s N named.0, link_some 1 (hierarchy s 2 (N - 1)))) (put_then (put_then count p) q.words);
      seed = q.seed;
    }

-- the header leads to the first term
headed : (s N m : ℕ) → 1 ≤ m → record_words 1 0 0 0 0 0 (term_words 1 (load_policy s N m)) ≡ policy_words (load_policy s N m)
unfolding policy_words
headed s N zero h = absurd (omega arith)
headed s N (suc m) h = refl

pub policy_put : {N m : ℕ} {o o₁ o₂ o₃ : List ℕ} {c r : Cursor} {at : ℕ} → Drawable o c (1 + 6 * (3 * m + 1)) N m → o₁ ≡ set o c.at (6 * (3 * m + 1)) →
    Put o₁ (c.at + 1) (record_words 1 0 0 0 0 0 []) o₂ at →
    Drawn o₂ (record { at = at; seed = c.seed }) (term_words 1 (load_policy c.seed N m)) (advance_by (3 * m) c.seed) o₃ r →
    Drawn o c (counted (policy_words (load_policy c.seed N m))) (advance_by (3 * m) c.seed) o₃ r
policy_put {N} {m} {o} {o₁} {c = c} room e p q =
    let count : Put o c.at (6 * (3 * m + 1) ∷ []) o₁ (c.at + 1) = count_put (omega (arith, room.long)) e in
    let words : 6 * (3 * m + 1) ∷ record_words 1 0 0 0 0 0 (term_words 1 (load_policy c.seed N m)) ≡ counted (policy_words (load_policy c.seed N m)) =
    rw (headed c.seed N m room.terms.0, policy_size c.seed N m) in
    record { words = put_as words (put_then (put_then count p) q.words); seed = q.seed }
