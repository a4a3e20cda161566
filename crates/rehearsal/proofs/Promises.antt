-- What Rehearse promises, a sentence a theorem. Each is about a seed, a number of classes, a number of terms and an output of o words,
-- whatever they are.
use Prim.Native.Nat.{◌*◌, ◌+◌, ◌-◌, ◌≤◌, ℕ}
use mathlib.Core.Bool.{false, true}
use mathlib.Core.List.{List}
use mathlib.Core.Path.{◌∙◌, ◌≡◌, ap, subst, sym}
use lib.Dec.{eqb, leb}
use lib.ListN.{length}
use native.Mathlib.Omega.{arith}
use borrow.Author.Tests.{eq-eqb, le-leb}
use Rattle.meaning.specs.Answers.{accepted, result, wrote}
use Rattle.meaning.specs.Containment.{crowded, resolve}
use Rattle.meaning.specs.Limits.{most_bytes, most_classes, output_size, work_size}
use Rattle.meaning.specs.Lists.{All}
use Rattle.meaning.specs.Operations.{AcceptedInput, compliance, read_policy, read_second_policy, read_vocabulary}
use Rattle.meaning.specs.Policy.{policy_of}
use Rattle.meaning.specs.Program.{bytes_of, next_part, printed, program}
use Rattle.meaning.specs.Records.{Name}
use Rattle.meaning.specs.Vocabulary.{vocabulary_of}
use Rattle.rehearsal.proofs.Decided.{HasRoom, load_has_room, load_uncrowded}
use Rattle.rehearsal.proofs.Fitting.{Word, load_fits}
use Rattle.rehearsal.proofs.Seeds.{load_length}
use Rattle.rehearsal.proofs.ThreeParts.{three_parts}
use Rattle.rehearsal.proofs.Unrefused.{policy_unrefused, vocabulary_unrefused}
use Rattle.rehearsal.specs.Drawing.{load_size}
use Rattle.rehearsal.specs.Load.{ThreeParts, advance_by, first_part, is_load, load, load_first, load_refusal, load_second, load_vocabulary, most_terms}
use Rattle.rehearsal.specs.Load.{rehearse, second_part, vocabulary_part}
use Rattle.theory.proofs.Bytes.{bytes_length, words_of_bytes}
use Rattle.theory.proofs.Links.{bounds, passed}
use Rattle.theory.proofs.PolicyWords.{policy_words_read}
use Rattle.theory.proofs.Refusals.{filling_told}
use Rattle.theory.proofs.VocabularyWords.{vocabulary_words_read}

-- ---- where words are written, nothing was refused

abbrev pub Wrote : ℕ → ℕ → ℕ → ℕ → ℕ → Type 0
Wrote s N m o n = (rehearse s N m o).answer ≡ result (wrote n)

-- the numbers of such a load, and its words
record Told (s N m o n : ℕ) : Type 0 where
  classes : Name most_classes N
  terms : Name most_terms m
  words : (rehearse s N m o).words ≡ load s N m
  count : n ≡ length (load s N m)

told : (s N m o n : ℕ) → Wrote s N m o n → Told s N m o n
unfolding rehearse load_refusal
told s N m o n e =
    let a = filling_told (load_refusal s N m) (load s N m) o n e in
    let u = simp bounds at ((passed 44 (is_load s N m) 0).0 a.0).0 in
    record { classes = u.1.0; terms = u.1.1; words = a.1; count = a.2 }

-- ---- the promises

module _ (s N m o n : ℕ) (e : Wrote s N m o n) where
  -- the words are so many
  pub rehearse_size : n ≡ load_size N m
  rehearse_size = let t = told s N m o n e in t.count ∙ load_length s N m t.classes.0

  pub rehearse_few : n ≤ load_size most_classes most_terms
  rehearse_few = let t = told s N m o n e in let a = t.classes.1 in let b = t.terms.1 in omega (arith, rehearse_size)

  -- the rule for the program's input reads the three parts back, and nothing follows them
  pub rehearse_parts : ThreeParts (rehearse s N m o).words (vocabulary_part s N) (first_part s N m) (second_part s N m)
  unfolding load
  rehearse_parts =
      let v = vocabulary_part s N in
      let p = first_part s N m in
      let q = second_part s N m in
      subst (λ (ws : List ℕ). ThreeParts ws v p q) (sym (told s N m o n e).words) (three_parts v p q)

  pub rehearse_unrefused : AcceptedInput (vocabulary_part s N) (first_part s N m) (second_part s N m)
  rehearse_unrefused =
      let t = told s N m o n e in
      record {
        vocabulary = vocabulary_unrefused N t.classes s;
        first_policy = policy_unrefused N t.classes s (advance_by (N - 1) s) m t.terms.1;
        second_policy = policy_unrefused N t.classes s (advance_by (N - 1 + 3 * m) s) m t.terms.1;
      }

  -- every load is accepted by the readers, all three parts
  pub rehearse_accepted : (read_vocabulary (vocabulary_part s N) ≡ result accepted) × (read_policy (vocabulary_part s N) (first_part s N m) ≡ result accepted)
      × (read_second_policy (vocabulary_part s N) (second_part s N m) ≡ result accepted)
  unfolding read_vocabulary read_policy read_second_policy
  rehearse_accepted = let a = rehearse_unrefused in (rw a.vocabulary, rw (a.vocabulary, a.first_policy), rw (a.vocabulary, a.second_policy))

  -- Compliance, its work slice full, is not refused 22, and its output has room for every countermodel in `room` words
  pub rehearse_uncrowded : crowded (load_vocabulary s N) (load_first s N m) (load_second s N m) ≡ false
  rehearse_uncrowded = load_uncrowded (load_vocabulary s N) (advance_by (N - 1 + 3 * m) s) N m (told s N m o n e).terms.1 (advance_by (N - 1) s) m

  pub rehearse_short : HasRoom (load_vocabulary s N) (resolve (load_vocabulary s N) (load_first s N m) (load_second s N m))
  unfolding load_vocabulary
  rehearse_short = load_has_room (load_vocabulary s N) (told s N m o n e).classes.1 (load_second s N m) (advance_by (N - 1) s) N m

  -- each word is below 2 to the power of 32
  pub rehearse_fits : All Word (rehearse s N m o).words
  rehearse_fits = let t = told s N m o n e in rw t.words (load_fits N t.classes s m t.terms.1)

  -- as bytes they are an input that the program takes for these three parts
  pub rehearse_piped : program (bytes_of (rehearse s N m o).words) ≡
      printed (compliance (vocabulary_part s N) (first_part s N m) (second_part s N m) work_size output_size)
  unfolding program
  rehearse_piped =
      let ws = (rehearse s N m o).words in
      let end = next_part ws (next_part ws (next_part ws 0)) in
      let t = rehearse_parts in
      let long : length ws ≡ n = ap length (told s N m o n e).words ∙ sym (told s N m o n e).count in
      let short : leb (length (bytes_of ws)) most_bytes ≡ true = le-leb (length (bytes_of ws)) most_bytes (omega (arith, bytes_length ws, rehearse_few)) in
      let whole : eqb (length (bytes_of ws)) (4 * end) ≡ true = eq-eqb (length (bytes_of ws)) (4 * end) (bytes_length ws ∙ ap (λ (k : ℕ). 4 * k) (sym t.all)) in
      rw (words_of_bytes rehearse_fits, short, whole, t.first, t.second, t.third)

-- and each is read as what was drawn
pub load_read : (s N m : ℕ) → (vocabulary_of (vocabulary_part s N) ≡ load_vocabulary s N)
    × (policy_of (first_part s N m) ≡ load_first s N m) × (policy_of (second_part s N m) ≡ load_second s N m)
load_read s N m = (vocabulary_words_read (load_vocabulary s N), policy_words_read (load_first s N m), policy_words_read (load_second s N m))
