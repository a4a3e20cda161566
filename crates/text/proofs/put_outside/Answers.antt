-- `put_outside`: the answer's line and the records' lines.
use native.Mathlib.Omega.{arith}
use Rattle.frames.proofs.Puts.{put_as, put_then}
use Rattle.text.proofs.Facts.{model_count, model_printed}
use Rattle.text.proofs.put_outside.Goals as goal

pub overflow_sub-n : goal.overflow_sub-n
overflow_sub-n c = omega (arith, model_count _ _ c.requires.1)

pub returns : goal.returns
returns c = put_as (model_printed _ _ c.requires.1 _ _)
    (put_then c.put_line-next.ensures.put c.put_facts.ensures)
