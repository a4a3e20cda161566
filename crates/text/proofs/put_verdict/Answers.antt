-- `put_verdict`: by the verdict.
use mathlib.Core.Path.{◌∙◌, ap, sym}
use Rattle.std.specs.Prelude.{Ok, Result}
use Rattle.frames.proofs.Puts.{put_as}
use Rattle.meaning.specs.Answers.{compliant, refused, result}
use Rattle.meaning.specs.Program.{printed}
use Rattle.meaning.specs.declared.Verdict.{Verdict}
use Rattle.meaning.specs.declared.refusals.Refusal.{Refusal}
use Rattle.text.proofs.Facts.{line_printed}
use Rattle.text.specs.Text.{shown}
use Rattle.text.proofs.put_verdict.Goals as goal

pub returns-in-Ok-Compliant : goal.returns-in-Ok-Compliant
returns-in-Ok-Compliant c =
    let out = c.args.out.now in
    let h = c.in-Ok-Compliant.is in
    put_as (line_printed (result compliant) ∙ ap (λ (v : Result Verdict Refusal). printed (shown v out)) (sym (h ∙ ap Ok (rw h at c.in-Ok-Compliant.field-0-is)))) c.put_line.ensures.put

pub returns-in-Err : goal.returns-in-Err
returns-in-Err c =
    let out = c.args.out.now in
    put_as (rw c.number.ensures (line_printed (refused _)) ∙ ap (λ (v : Result Verdict Refusal). printed (shown v out)) (sym c.in-Err.is)) c.put_line-in-Err.ensures.put
