-- `answer`: what is decided, printed.
use Rattle.text.proofs.Outcomes.{answer_printed}
use Rattle.desk.proofs.answer.Goals as goal

pub returns : goal.returns
returns c = answer_printed _ c.decide_input-verdict.ensures c.put_verdict.ensures
