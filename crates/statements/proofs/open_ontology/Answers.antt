use Rattle.statements.proofs.Laws.{opened, opened_none}
use Rattle.statements.proofs.open_ontology.Goals as goal

pub returns-in_err-word : goal.returns-in_err-word
returns-in_err-word c = rw c.from_residual.ensures (opened_none c.args.text.now c.in_err-word.ensures)

pub returns : goal.returns
returns c = opened c.args.text.now c.in_ok-word.ensures _ c.take-2.ensures
