use Rattle.normal_form.proofs.Laws.{start_none, start_range}
use Rattle.normal_form.proofs.start_classes.Goals as goal

pub returns-then-r-eq0 : goal.returns-then-r-eq0
returns-then-r-eq0 c = start_none _ _ _ c.if-r-eq0.true c.new.ensures.words_value

pub returns-else-r-eq0 : goal.returns-else-r-eq0
returns-else-r-eq0 c =
    let p = c.requires in
    start_range _ _ _ c.if-r-eq0.false p.0 p.1 c.range_above.ensures.words_value
