use Rattle.satisfaction.proofs.Facts.{entered_none, entered_one}
use Rattle.satisfaction.proofs.Rows.{put_size}
use Rattle.satisfaction.proofs.enter.Goals as goal

pub returns-then-fact_kind-ne1 : goal.returns-then-fact_kind-ne1
returns-then-fact_kind-ne1 c = search entered_none

pub shape_of-work : goal.shape_of-work
shape_of-work c = search put_size

pub returns : goal.returns
returns c = search entered_one
