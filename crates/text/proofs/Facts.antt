-- The records of a model's words, one after the other, and the lines printed for them. Assumes nothing.
use Rattle.std.specs.Prelude.{Ok}
use Prim.Native.Nat.{◌*◌, ◌+◌, ◌-◌, ◌/◌, suc, ℕ}
use lib.ListN.{drop, length, take-append-drop}
use mathlib.Core.List.{List, [], ◌++◌, ◌∷◌, append_assoc, append-nil, map}
use mathlib.Core.Path.{◌∙◌, ◌≡◌, ap, refl, sym}
use native.Mathlib.Nat.{add_comm}
use native.Mathlib.Numerals.{add-one}
use native.Mathlib.Omega.{arith}
use Rattle.frames.proofs.Puts.{put_as, put_then}
use Rattle.frames.specs.Rows.{Put}
use Rattle.input.proofs.Words.{counted}
use Rattle.meaning.specs.Answers.{Answer, VerdictResult}
use Rattle.meaning.specs.Lists.{counting, flat_map}
use Rattle.meaning.specs.Model.{Fact, fact_at, fact_words, facts_of}
use Rattle.meaning.specs.Model.{model_words}
use Rattle.meaning.specs.Program.{answer_line, bytes, fact_line, line, printed}
use Rattle.meaning.specs.Records.{chained_words, link_to}
use Rattle.meaning.specs.declared.Verdict.TheVariants.{Outside}
use Rattle.text.specs.Text.{Model, records_to, shown}
use Rattle.theory.proofs.ModelWords.{model_facts, model_length, stated}

lines_more : (F : List Fact) (x : Fact) → flat_map fact_line (F ++ (x ∷ [])) ≡ flat_map fact_line F ++ fact_line x
lines_more [] x = append-nil (fact_line x)
lines_more (y ∷ F) x = rw (lines_more F x, append_assoc (fact_line y) (flat_map fact_line F) (fact_line x))

-- the line of the next record
pub facts_more : {t u v : List ℕ} {at next r : ℕ} (m : List ℕ) (k : ℕ) → Put t at (flat_map fact_line (records_to m k)) u next →
    Put u next (fact_line (fact_at m (k + 1))) v r → Put t at (flat_map fact_line (records_to m (k + 1))) v r
facts_more m k p q =
    let more : records_to m (k + 1) ≡ records_to m k ++ (fact_at m (k + 1) ∷ []) =
    ap (records_to m) (add-one k) ∙ counted (fact_at m) 1 k ∙ ap (λ (i : ℕ). records_to m k ++ (fact_at m i ∷ [])) (add_comm 1 k) in
    put_as (sym (ap (flat_map fact_line) more ∙ lines_more (records_to m k) (fact_at m (k + 1)))) (put_then p q)

pub facts_all : {t u : List ℕ} {at r : ℕ} (m : List ℕ) (k n : ℕ) → Put t at (flat_map fact_line (records_to m k)) u r → k ≡ n →
    Put t at (flat_map fact_line (records_to m n)) u r
facts_all m k n p e = put_as (ap (λ (i : ℕ). flat_map fact_line (records_to m i)) e) p

-- records in a row state the facts they were written for
records_read : (m rest : List ℕ) (k : ℕ) (F : List Fact) → drop (5 * suc k) m ≡ chained_words fact_words (suc k) F ++ rest →
    map (fact_at m) (counting (suc k) (length F)) ≡ F
records_read m rest k [] e = refl
records_read m rest k (x ∷ F) e =
    let link = link_to (suc (suc k)) F in
    let later = chained_words fact_words (suc (suc k)) F in
    let s = stated m (suc k) x link (later ++ rest) (e ∙ append_assoc (fact_words x link) later rest) in
    rw (s.is, records_read m rest (suc k) F s.rest)

module _ (out : List ℕ) (n : ℕ) (m : Model out n) where
  pub model_count : n ≡ 5 * (length m.facts + 1)
  model_count = sym m.size ∙ model_length m.individuals m.facts

  pub model_records : records_to out (n / 5 - 1) ≡ m.facts
  unfolding model_words
  model_records =
      let all : out ≡ model_words m.individuals m.facts ++ drop n out = sym (take-append-drop n out) ∙ ap (λ (l : List ℕ). l ++ drop n out) m.words in
      let few : n / 5 - 1 ≡ length m.facts = omega (arith, model_count) in
      rw few (records_read out (drop n out) 0 m.facts (ap (drop 5) all))

  -- the answer's line and the records' lines
  pub model_printed : (s q : ℕ) → line (bytes "outside") (s ∷ (q ∷ [])) ++ flat_map fact_line (records_to out (n / 5 - 1)) ≡ printed (shown (Ok (Outside s q n)) out)
  unfolding printed
  model_printed s q = rw (model_records, m.words, model_facts m.individuals m.facts)

-- where no words are reported, the answer's line is all
pub line_printed : (a : Answer VerdictResult) → answer_line a ≡ printed (record { answer = a; words = [] })
unfolding printed facts_of
line_printed a = sym (append-nil (answer_line a))
