use mathlib.Core.Path.{◌∙◌, refl}
use Rattle.meaning.specs.Policy.{policy_refusal}
use Rattle.meaning.specs.declared.refusals.Refusal.TheVariants.{Policy, Vocabulary}
use Rattle.theory.proofs.Numbers.{converted, reading_told, vocabulary_numbered}
use Rattle.policy.proofs.Laws.{answers, then_next, vocabulary_first}
use Rattle.policy.proofs.read_policy.Goals as goal

pub returns-in_err-check_vocabulary : goal.returns-in_err-check_vocabulary
returns-in_err-check_vocabulary c =
    let e = c.in_err-check_vocabulary in
    let v = c.args.v.now in
    let p = c.args.p.now in
    let n = converted c.from_residual.result e.field-0.0 Vocabulary c.from_residual.ensures.1 refl ∙ vocabulary_first v (policy_refusal v p) e.ensures (vocabulary_numbered e.field-0.0) in
    record { answer = answers v p (reading_told c.from_residual.result) n; number = n }

pub returns-in_err-check_policy : goal.returns-in_err-check_policy
returns-in_err-check_policy c =
    let e = c.in_err-check_policy in
    let r = c.from_residual-in_err-check_policy in
    let v = c.args.v.now in
    let p = c.args.p.now in
    let n = converted r.result e.field-0.0 Policy r.ensures.1 refl ∙ then_next v (policy_refusal v p) c.in_ok-check_vocabulary.ensures refl e.ensures in
    record { answer = answers v p (reading_told r.result) n; number = n }

pub returns : goal.returns
returns c =
    let v = c.args.v.now in
    let p = c.args.p.now in
    let n = then_next v (policy_refusal v p) c.in_ok-check_vocabulary.ensures refl c.in_ok-check_policy.ensures in
    record { answer = answers v p refl n; number = n }
