use mathlib.Core.Path.{◌∙◌, refl}
use Rattle.meaning.specs.Refusals.{refusal_number}
use Rattle.meaning.specs.declared.refusals.Refusal.TheVariants.{Model}
use Rattle.model_check.proofs.Whole.{refused_input, refused_model}
use Rattle.theory.proofs.Numbers.{converted, kept, refusal_numbered}
use Rattle.model_check.proofs.check_tables.Goals as goal

pub returns-in_err-check_input : goal.returns-in_err-check_input
returns-in_err-check_input c =
    let a = c.args in
    let e = c.in_err-check_input in
    kept refusal_number c.from_residual.result c.from_residual.ensures.1 ∙ refused_input a.v.now a.p.now a.q.now a.m.now e.ensures (refusal_numbered e.field-0.0)

pub returns-in_err-check_model : goal.returns-in_err-check_model
returns-in_err-check_model c =
    let a = c.args in
    let e = c.in_err-check_model in
    let r = c.from_residual-in_err-check_model in
    converted r.result e.field-0.0 Model r.ensures.1 refl ∙ refused_model a.v.now a.p.now a.q.now a.m.now c.in_ok-check_input.ensures refl e.ensures

pub returns : goal.returns
returns c = let a = c.args in refused_model a.v.now a.p.now a.q.now a.m.now c.in_ok-check_input.ensures refl c.in_ok-check_model.ensures
