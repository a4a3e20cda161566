-- The load's words as bytes, and none where it is refused. Assumes nothing.
use Rattle.std.specs.Prelude.{Result, Err, Ok}
use Rattle.meaning.specs.declared.refusals.Refusal.{Refusal}
use Prim.Native.Nat.{◌*◌, ◌≤◌, ℕ}
use mathlib.Core.Bool.{true}
use mathlib.Core.List.{List, []}
use mathlib.Core.Path.{◌∙◌, ◌≡◌, ap, sym}
use native.Mathlib.Omega.{arith}
use lib.ListN.{length, length-take, take}
use lib.Seq.{length-take-le, take_at}
use borrow.Author.Tests.{le-leb}
use Rattle.frames.proofs.Puts.{put_taken, put_within}
use Rattle.frames.specs.Rows.{Put}
use Rattle.meaning.specs.Answers.{FillingResult, filling_answer, result, wrote}
use Rattle.meaning.specs.Limits.{output_size, work_size}
use Rattle.meaning.specs.Operations.{Outcome, compliance, output_after}
use Rattle.meaning.specs.Program.{bytes_of, printed, program}
use Rattle.rehearsal.proofs.Promises.{rehearse_piped}
use Rattle.rehearsal.proofs.Seeds.{load_length}
use Rattle.rehearsal.specs.Load.{RehearsePost, first_part, is_load, load, load_refusal, rehearse, second_part, vocabulary_part}
use Rattle.rehearse.specs.Arguments.{load_bytes, most_load, number_of}
use Rattle.theory.proofs.Links.{bounds}
use Rattle.theory.proofs.Refusals.{FillingFits, filling_fits}

load_fits : (s N m o : ℕ) → FillingFits o (rehearse s N m o)
unfolding rehearse
load_fits s N m o = filling_fits (load_refusal s N m) o (load s N m)

-- ---- the words

module _ {s N m : ℕ} {w w' : List ℕ} {x : Result ℕ Refusal} (p : RehearsePost s N m w w' x) where
  -- 45
  no_words : {e : Refusal} → x ≡ Err e → (rehearse s N m (length w)).words ≡ []
  no_words e = (load_fits s N m (length w)).none _ (sym p.answer ∙ ap filling_answer e)

  module _ {n : ℕ} (e : x ≡ Ok n) where
    fits : (n ≡ length (rehearse s N m (length w)).words) × (length (rehearse s N m (length w)).words ≤ length w)
    fits = (load_fits s N m (length w)).some n (sym p.answer ∙ ap filling_answer e)

    -- the words are the first n
    first_words : take n w' ≡ (rehearse s N m (length w)).words
    unfolding output_after
    first_words = ap (take n) p.output ∙ take_at _ _ n (sym fits.0)

    pub words_within : n ≤ length w'
    words_within = omega (arith, fits.0, ap length first_words, length-take n w')

    pub bytes_room : length w ≡ most_load → {k : ℕ} → 4 * most_load ≤ k → 4 * length (take n w') ≤ k
    bytes_room long h = omega (arith, length-take-le n w' words_within, fits.0, fits.1)

-- ---- the bytes

module _ (a b c : List ℕ) {s N m : ℕ} (seed : s ≡ number_of a) (classes : N ≡ number_of b) (terms : m ≡ number_of c) {w w' : List ℕ} (long : length w ≡ most_load) {x : Result ℕ Refusal}
    (p : RehearsePost s N m w w' x) where
  bytes_of_lem : {ws : List ℕ} → ws ≡ (rehearse s N m (length w)).words → bytes_of ws ≡ load_bytes a b c
  unfolding load_bytes
  bytes_of_lem e = rw (e, seed, classes, terms, long)

  pub no_bytes : {e : Refusal} → x ≡ Err e → (t : List ℕ) → (0 ≤ length t) × (take 0 t ≡ load_bytes a b c)
  unfolding bytes_of
  no_bytes e t = (omega arith, bytes_of_lem (sym (no_words p e)))

  pub load_bytes_lem : {n : ℕ} → x ≡ Ok n → {t t' : List ℕ} {r : ℕ} → Put t 0 (bytes_of (take n w')) t' r → (r ≤ length t') × (take r t' ≡ load_bytes a b c)
  load_bytes_lem e q = (put_within q, put_taken q ∙ bytes_of_lem (first_words p e))

-- ---- numbers in range: the longest load has room, so all of the load is written, and the program comply reads it

module _ (a b c : List ℕ) (h : is_load (number_of a) (number_of b) (number_of c) ≡ true) where
  wrote_all : rehearse (number_of a) (number_of b) (number_of c) most_load
      ≡ record { answer = result (wrote (length (load (number_of a) (number_of b) (number_of c)))); words = load (number_of a) (number_of b) (number_of c) }
  unfolding rehearse load_refusal
  wrote_all =
      let s = number_of a in
      let N = number_of b in
      let m = number_of c in
      let u = simp bounds at h in
      rw (h, le-leb (length (load s N m)) most_load (omega (arith, load_length s N m u.1.0.0, u.1.0.1, u.1.1.1)))

  pub load_whole : load_bytes a b c ≡ bytes_of (load (number_of a) (number_of b) (number_of c))
  unfolding load_bytes
  load_whole = rw wrote_all

  -- what comply prints for what rehearse writes
  pub load_piped : program (load_bytes a b c) ≡
      printed (compliance (vocabulary_part (number_of a) (number_of b)) (first_part (number_of a) (number_of b) (number_of c)) (second_part (number_of a) (number_of b) (number_of c)) work_size output_size)
  unfolding load_bytes
  load_piped = rehearse_piped (number_of a) (number_of b) (number_of c) most_load _ (ap (λ (r : Outcome FillingResult). r.answer) wrote_all)
