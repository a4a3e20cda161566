use mathlib.Core.Path.{refl}
use Rattle.meaning.specs.declared.refusals.Refusal.TheVariants.{Vocabulary}
use Rattle.theory.proofs.Numbers.{converted, reading_told}
use Rattle.vocabulary.proofs.Laws.{told}
use Rattle.vocabulary.proofs.read_vocabulary.Goals as goal

pub returns-in_err-check_vocabulary : goal.returns-in_err-check_vocabulary
returns-in_err-check_vocabulary c =
    let e = c.in_err-check_vocabulary in
    told c.args.v.now (converted c.from_residual.result e.field-0.0 Vocabulary c.from_residual.ensures.1 e.ensures) (reading_told c.from_residual.result)

pub returns : goal.returns
returns c = told c.args.v.now c.in_ok-check_vocabulary.ensures refl
