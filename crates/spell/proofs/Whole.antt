-- The whole operation: its refusals in order, what is laid out and filed, and the work cleared.
use Rattle.std.specs.Prelude.{Result}
use Rattle.meaning.specs.declared.refusals.Refusal.{Refusal}
use Prim.Native.Nat.{ℕ}
use mathlib.Core.Bool.{Bool, cond, false, true}
use mathlib.Core.List.{List}
use mathlib.Core.Path.{◌∙◌, ◌≡◌, ap, refl, sym}
use lib.Dec.{leb}
use lib.ListN.{length}
use Rattle.frames.proofs.Work.{Done}
use Rattle.meaning.specs.Answers.{FillingResult, filling_answer, result, wrote}
use Rattle.meaning.specs.Operations.{Outcome, comes_late, output_after, refuses, unless, work_refusal}
use Rattle.meaning.specs.Policy.{Policy, policy_of, policy_refusal}
use Rattle.meaning.specs.PolicyWords.{policy_words}
use Rattle.meaning.specs.Records.{or_else}
use Rattle.meaning.specs.Vocabulary.{vocabulary_of, vocabulary_refusal}
use Rattle.spelling.specs.Operation.{SpellPost, filed, spell, spell_of}
use Rattle.spelling.specs.Spelling.{spelled, too_long}
use Rattle.theory.proofs.Refusals.{or_else_assoc}

-- 43, 23 and the words come after 21
pub filed_late : (P : Policy) (o : ℕ) → comes_late (filed P o).answer ≡ true
filed_late P o = go (too_long P) (leb (length (policy_words P)) o) (policy_words P)
  where
    go : (a b : Bool) (ws : List ℕ) → comes_late (cond a (refuses 43) (cond b (record { answer = result (wrote (length ws)); words = ws }) (refuses 23))).answer ≡ true
    go true b ws = refl
    go false true ws = refl
    go false false ws = refl

abbrev pub told_spelling : List ℕ → List ℕ → ℕ → Outcome FillingResult
told_spelling v p o = filed (spelled (vocabulary_of v) (policy_of p)) o

pub spell_post : {v p w w' o o' : List ℕ} {r : Result ℕ Refusal} →
    Done (or_else (vocabulary_refusal v) (policy_refusal v p)) (told_spelling v p (length o)) (filling_answer r) w w' o o' → SpellPost v p w w' o o' r
unfolding spell spell_of
spell_post {v} {p} {w} {o = o} d =
    let e = ap (λ (n : ℕ). unless refuses n (told_spelling v p (length o))) (or_else_assoc (vocabulary_refusal v) (policy_refusal v p) (work_refusal (length w))) in
    record {
      answer = d.answer ∙ sym (ap (λ (x : Outcome FillingResult). x.answer) e);
      output = d.output ∙ sym (ap (λ (x : Outcome FillingResult). output_after x.words o) e);
      work = d.work;
    }
