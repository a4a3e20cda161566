-- Laws of Possible: the search for the first possible term, the refusals in their order, the work slice afterwards.
use Prim.Native.Nat.{◌+◌, suc, ℕ}
use mathlib.Core.Bool.{Bool, cond, false, not, true}
use mathlib.Core.List.{List, [], ◌∷◌}
use mathlib.Core.Path.{◌∙◌, ◌≡◌, ap, refl, sym}
use native.Mathlib.Omega.{arith}
use Rattle.std.specs.Prelude.{Option, Result}
use lib.ListN.{length}
use Rattle.containment.specs.Verdicts.{PossiblePost}
use Rattle.frames.proofs.Work.{Done}
use Rattle.functional.specs.declared.Functional.{Functional}
use Rattle.meaning.specs.Answers.{PossibilityResult, first_possible, possibility_answer, refused, result}
use Rattle.meaning.specs.NormalForm.{possible}
use Rattle.meaning.specs.Operations.{Outcome, possibility, possible_from, says, unless, work_refusal}
use Rattle.meaning.specs.Policy.{Chain, Policy, policy_of, policy_refusal}
use Rattle.meaning.specs.Records.{or_else}
use Rattle.meaning.specs.Vocabulary.{Vocabulary, vocabulary_of, vocabulary_refusal}
use Rattle.meaning.specs.declared.refusals.Refusal.{Refusal}
use Rattle.preparation.specs.Prepared.{Accepting, Prepared}
use Rattle.theory.proofs.Refusals.{or_else_assoc, or_else_zero, says_unless}

-- ---- the first that is possible

module _ (K : Vocabulary) (s : ℕ) (c : Chain) {b : Bool} (e : b ≡ not (possible K c)) where
  pub possible_found : b ≡ false → (l : Policy) → possible_from K s (c ∷ l) ≡ first_possible s
  possible_found h l = go (possible K c) (sym h ∙ e)
    where
      go : (t : Bool) → false ≡ not t → cond t (first_possible s) (possible_from K (suc s) l) ≡ first_possible s
      go true h = refl
      go false h = cc

  pub possible_on : b ≡ true → (l : Policy) → possible_from K s (c ∷ l) ≡ possible_from K (s + 1) l
  possible_on h l = go (possible K c) (sym h ∙ e)
    where
      go : (t : Bool) → true ≡ not t → cond t (first_possible s) (possible_from K (suc s) l) ≡ possible_from K (s + 1) l
      go true h = cc
      go false h = ap (λ (i : ℕ). possible_from K i l) (omega arith)

-- ---- the operation

-- after `prepare`
pub accepting : {v p w : List ℕ} {f : Functional} → or_else (vocabulary_refusal v) (policy_refusal v p) ≡ 0 → Prepared v w f → Accepting v p w f
accepting {v} {p} z g = record { prepared = g; policy = (or_else_zero (vocabulary_refusal v) (policy_refusal v p) z).1 }

abbrev pub told_possible : List ℕ → List ℕ → Outcome PossibilityResult
told_possible v p = says (possible_from (vocabulary_of v) 1 (policy_of p))

pub possible_post : {v p w w' : List ℕ} {r : Result (Option ℕ) Refusal} →
    Done (or_else (vocabulary_refusal v) (policy_refusal v p)) (told_possible v p) (possibility_answer r) w w' [] [] → PossiblePost v p w w' r
unfolding possibility
possible_post {v} {p} {w} d =
    let told = possible_from (vocabulary_of v) 1 (policy_of p) in record {
      answer = d.answer ∙ says_unless (or_else (or_else (vocabulary_refusal v) (policy_refusal v p)) (work_refusal (length w))) told
          ∙ sym (ap (λ (n : ℕ). unless refused n (result told)) (or_else_assoc (vocabulary_refusal v) (policy_refusal v p) (work_refusal (length w))));
      work = d.work;
    }
