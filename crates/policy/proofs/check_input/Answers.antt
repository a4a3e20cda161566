use mathlib.Core.Path.{◌∙◌, refl}
use Rattle.meaning.specs.Refusals.{refusal_number}
use Rattle.theory.proofs.Numbers.{kept, refusal_numbered}
use Rattle.policy.proofs.Laws.{input_former, input_latter}
use Rattle.policy.proofs.check_input.Goals as goal

pub returns-in_err-read_policy : goal.returns-in_err-read_policy
returns-in_err-read_policy c =
    let e = c.in_err-read_policy in
    kept refusal_number c.from_residual.result c.from_residual.ensures.1
    ∙ input_former c.args.v.now c.args.p.now c.args.q.now e.ensures.number (refusal_numbered e.field-0.0)

pub returns-in_err-check_second : goal.returns-in_err-check_second
returns-in_err-check_second c =
    let r = c.from_residual-in_err-check_second in
    kept refusal_number r.result r.ensures.1
    ∙ input_latter c.args.v.now c.args.p.now c.args.q.now c.in_ok-read_policy.ensures.number refl c.in_err-check_second.ensures

pub returns : goal.returns
returns c = input_latter c.args.v.now c.args.p.now c.args.q.now c.in_ok-read_policy.ensures.number refl c.in_ok-check_second.ensures
