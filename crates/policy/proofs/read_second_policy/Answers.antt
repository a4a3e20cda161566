use mathlib.Core.Path.{◌∙◌, refl}
use Rattle.meaning.specs.Policy.{policy_refusal, second_refusal}
use Rattle.meaning.specs.declared.refusals.Refusal.TheVariants.{Vocabulary}
use Rattle.theory.proofs.Numbers.{converted, reading_told, vocabulary_numbered}
use Rattle.policy.proofs.Laws.{answers_second, then_next, vocabulary_first}
use Rattle.policy.proofs.read_second_policy.Goals as goal

pub returns-in_err-check_vocabulary : goal.returns-in_err-check_vocabulary
returns-in_err-check_vocabulary c =
    let e = c.in_err-check_vocabulary in
    let v = c.args.v.now in
    let q = c.args.q.now in
    answers_second v q (reading_told c.from_residual.result)
    (converted c.from_residual.result e.field-0.0 Vocabulary c.from_residual.ensures.1 refl
    ∙ vocabulary_first v (second_refusal (policy_refusal v q)) e.ensures (vocabulary_numbered e.field-0.0))

pub returns : goal.returns
returns c =
    let v = c.args.v.now in
    let q = c.args.q.now in
    answers_second v q (reading_told c.check_second.result)
    (then_next v (second_refusal (policy_refusal v q)) c.in_ok-check_vocabulary.ensures refl c.check_second.ensures)
