use Rattle.std.proofs.Common.{rules}
use Rattle.comply.proofs.Running.{answered}
use Rattle.comply.proofs.run.Goals as goal

pub returns-in-Ok-write_answer : goal.returns-in-Ok-write_answer
returns-in-Ok-write_answer g c =
    answered _ _ _ _ c.in-Ok.n c.read_input.new.buffer _ (search rules) c.in-Ok.ensures.held c.in-Ok.ensures.bytes.0 c.in-Ok.ensures.bytes.1 c.answer-r.ensures.1 c.in-Ok-write_answer.ensures
