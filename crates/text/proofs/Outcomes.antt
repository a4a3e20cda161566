-- What the program decides and prints, for a function that reads its input, asks Compliance and prints the verdict.
use Rattle.meaning.specs.Refusals.{refusal_number}
use Rattle.meaning.specs.declared.refusals.Refusal.{Refusal}
use Rattle.std.specs.Prelude.{Err, Ok, Result}
use Prim.Native.Nat.{◌*◌, ◌/◌, ◌≤◌, suc, ℕ}
use borrow.Author.Tests.{eqb-true}
use lib.Dec.{leb}
use lib.ListN.{drop, length, take}
use lib.Seq.{take_at}
use mathlib.Core.Bool.{Bool, ◌&&◌, cond, false, true}
use mathlib.Core.List.{List, []}
use mathlib.Core.Path.{◌∙◌, ◌≡◌, ap, refl, subst, sym}
use native.Mathlib.Omega.{arith}
use Rattle.frames.proofs.Puts.{put_taken, put_within}
use Rattle.frames.specs.Rows.{Put}
use Rattle.input.specs.Input.{decided, decided_words, exact, parts_end, third_part}
use Rattle.meaning.specs.Answers.{Answer, VerdictResult, outside, refused, result, verdict_answer}
use Rattle.meaning.specs.Countermodel.{canonical_model, countermodel, individuals}
use Rattle.meaning.specs.Limits.{most_bytes, output_size, work_size}
use Rattle.meaning.specs.Model.{model_words}
use Rattle.meaning.specs.NormalForm.{Form}
use Rattle.meaning.specs.Operations.{Outcome, compliance, output_after, refuses}
use Rattle.meaning.specs.Policy.{Policy}
use Rattle.meaning.specs.Program.{answer_line, next_part, part_at, printed, program, words_of}
use Rattle.meaning.specs.Promises.{CorrectVerdict, agreed, escaped, unsaid_verdict}
use Rattle.meaning.specs.Vocabulary.{Vocabulary}
use Rattle.meaning.specs.declared.Verdict.{Verdict}
use Rattle.meaning.specs.declared.Verdict.TheVariants.{Compliant, Outside}
use Rattle.text.proofs.Facts.{line_printed}
use Rattle.text.specs.Text.{Shows, shown}
use Rattle.theory.proofs.Compliance.{compliance_told}

-- ---- what is decided

pub decided_long : (b : List ℕ) → leb (length b) most_bytes ≡ false → decided b ≡ refuses 40
unfolding decided
decided_long b h = rw h

pub decided_short : (b : List ℕ) → leb (length b) most_bytes ≡ true → decided b ≡ decided_words (length b) (words_of b)
unfolding decided
decided_short b h = rw h

pub words_inexact : (bytes : ℕ) (ws : List ℕ) → exact bytes ws ≡ false → decided_words bytes ws ≡ refuses 40
unfolding decided_words
words_inexact bytes ws h = rw h

pub words_exact : (bytes : ℕ) (ws : List ℕ) → exact bytes ws ≡ true →
    decided_words bytes ws ≡ compliance (part_at ws 0) (part_at ws (next_part ws 0)) (part_at ws (third_part ws)) work_size output_size
unfolding decided_words
words_exact bytes ws h = rw h

-- the three parts stand in the words of an input that is exactly as long
module _ (bytes : ℕ) (ws : List ℕ) (whole : exact bytes ws ≡ true) (size : length ws ≡ bytes / 4) where
  ends : parts_end ws ≡ length ws
  ends = omega (arith, eqb-true bytes (4 * parts_end ws) whole)

  pub first_stands : next_part ws 0 ≤ length ws
  first_stands = omega (arith, ends)

  pub second_stands : {p : ℕ} → p ≡ next_part ws 0 → next_part ws p ≤ length ws
  second_stands at = rw at (omega (arith, ends))

  pub third_stands : {p q : ℕ} → p ≡ next_part ws 0 → q ≡ next_part ws p → next_part ws q ≤ length ws
  third_stands at behind = rw (behind, at) (omega (arith, ends))

-- ---- what a verdict shows

-- a verdict with the answer of an outcome of Compliance, and an output with its words, show that outcome
never : {v : Result Verdict Refusal} {out : List ℕ} {r : Outcome VerdictResult} → ◌≡◌ {A = ℕ} 0 1 → Shows v out r
never e = absurd (omega arith)

outputs_front : (words o : List ℕ) (k : ℕ) → length words ≡ k → take k (output_after words o) ≡ words
unfolding output_after
outputs_front words o k h = take_at words (drop (length words) o) k h

model_of : (K : Vocabulary) (u : Form) → countermodel K u ≡ model_words (individuals u) (canonical_model K u)
unfolding countermodel
model_of K u = refl

shows : {n : ℕ} {K : Vocabulary} {P Q : Policy} {r : Outcome VerdictResult} → n ≤ output_size → CorrectVerdict K P Q n r → (v : Result Verdict Refusal) → verdict_answer v ≡ r.answer →
    (out o : List ℕ) → out ≡ output_after r.words o → Shows v out r
shows g (unsaid_verdict n) (Ok Compliant) e out o h = never (cc)
shows g (unsaid_verdict n) (Ok (Outside s q k)) e out o h = never (cc)
shows g (unsaid_verdict n) (Err k) e out o h = record { outcome = ap (λ (a : Answer VerdictResult). record { answer = a; words = [] }) e; reported = tt }
shows g (agreed c) (Ok Compliant) e out o h = record { outcome = refl; reported = tt }
shows g (agreed c) (Ok (Outside s q k)) e out o h = never (cc)
shows g (agreed c) (Err k) e out o h = never (cc)
shows g (escaped s q words x l) (Ok Compliant) e out o h = never (cc)
shows g (escaped s q words x l) (Err k) e out o h = never (cc)
shows {K = K} g (escaped s q words x l) (Ok (Outside s' q' k)) e out o h =
    let long : length words ≡ k = cc in
    let front : take k out ≡ words = ap (take k) h ∙ outputs_front words o k long in
    let model : words ≡ model_words (individuals x.combination) (canonical_model K x.combination) = x.written ∙ model_of K x.combination in
    record {
      outcome = ap (λ (a : Answer VerdictResult). record { answer = a; words = take k out }) e ∙ ap (λ (l : List ℕ). record { answer = result (outside (suc s) (suc q) (length words)); words = l }) front;
      reported = record {
        individuals = individuals x.combination;
        facts = canonical_model K x.combination;
        words = front ∙ model;
        size = ap length (sym model) ∙ long;
        fits = omega arith;
      };
    }

pub compliance_shown : (a b c : List ℕ) (w n : ℕ) → n ≤ output_size → (v : Result Verdict Refusal) → verdict_answer v ≡ (compliance a b c w n).answer →
    (out o : List ℕ) → out ≡ output_after (compliance a b c w n).words o → Shows v out (compliance a b c w n)
compliance_shown a b c w n g v = shows g (compliance_told a b c w n) v

pub refusal_shown : {r : Outcome VerdictResult} {e : Refusal} (out : List ℕ) → r ≡ refuses (refusal_number e) → Shows (Err e) out r
refusal_shown out e = record { outcome = sym e; reported = tt }

-- Compliance asked of the three parts, with a work slice and an output of the program's sizes
module _ (bytes : ℕ) (ws : List ℕ) {a b c : List ℕ} {p q w n : ℕ} where
  pub words_shown : exact bytes ws ≡ true → p ≡ next_part ws 0 → q ≡ next_part ws p → a ≡ part_at ws 0 → b ≡ part_at ws p → c ≡ part_at ws q →
      w ≡ work_size → n ≡ output_size → (v : Result Verdict Refusal) → verdict_answer v ≡ (compliance a b c w n).answer →
      (out o : List ℕ) → out ≡ output_after (compliance a b c w n).words o → Shows v out (decided_words bytes ws)
  words_shown whole at behind ea eb ec ew en v told out o after =
      let same : compliance a b c w n ≡ decided_words bytes ws = rw (words_exact bytes ws whole, ea, eb, ec, ew, en, behind, at) in
      subst (λ (r : Outcome VerdictResult). Shows v out r) same (compliance_shown a b c w n (omega arith) v told out o after)

pub input_shown : (b : List ℕ) {ws out : List ℕ} {v : Result Verdict Refusal} → leb (length b) most_bytes ≡ true → ws ≡ words_of b →
    Shows v out (decided_words (length b) ws) → Shows v out (decided b)
input_shown b {ws} {out} {v} h e s =
    subst (λ (r : Outcome VerdictResult). Shows v out r) (ap (decided_words (length b)) e ∙ sym (decided_short b h)) s

-- ---- what is printed

pub program_printed : (b : List ℕ) → program b ≡ printed (decided b)
unfolding program decided decided_words
program_printed b = go (leb (length b) most_bytes) (exact (length b) (words_of b)) _
  where
    go : (short whole : Bool) (told : Outcome VerdictResult) →
        cond (short && whole) (printed told) (answer_line (refused 40)) ≡ printed (cond short (cond whole told (refuses 40)) (refuses 40))
    go true true told = refl
    go true false told = line_printed (refused 40)
    go false whole told = line_printed (refused 40)

-- a verdict that shows what is decided, printed: the text holds it, and begins with it
pub answer_printed : (b : List ℕ) {t u out : List ℕ} {r : ℕ} {v : Result Verdict Refusal} → Shows v out (decided b) → Put t 0 (printed (shown v out)) u r →
    (r ≤ length u) × (take r u ≡ program b)
answer_printed b s p = (put_within p, put_taken p ∙ ap printed s.outcome ∙ sym (program_printed b))
