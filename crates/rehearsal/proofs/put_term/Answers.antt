-- `put_term`: three draws, then three records.
use mathlib.Core.Path.{◌∙◌, ap}
use Rattle.rehearsal.proofs.Terms.{term_put}
use Rattle.rehearsal.specs.Load.{advance, draw}
use Rattle.rehearsal.proofs.put_term.Goals as goal

pub returns : goal.returns
returns c =
    let first = c.draw_class-class.ensures in
    let second = c.draw-lo.ensures in
    let third = c.draw.ensures in
    let moved = second.seed ∙ ap advance first.seed in
    term_put _ _ first.value (second.value ∙ ap (λ s. draw s 100) first.seed) (third.value ∙ ap (λ s. draw s 100) moved)
    c.put_record-class_at.ensures c.put_record-interval_at.ensures c.put_record.ensures (third.seed ∙ ap advance moved)
