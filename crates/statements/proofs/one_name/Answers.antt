use Rattle.statements.proofs.Laws.{one_begins, one_closes, one_named, one_stands}
use Rattle.statements.proofs.one_name.Goals as goal

pub returns-in_err-open : goal.returns-in_err-open
returns-in_err-open c = rw c.from_residual.ensures (one_begins c.args.text.now c.args.at c.in_err-open.ensures)

pub returns-in_err-name : goal.returns-in_err-name
returns-in_err-name c = rw c.from_residual-in_err-name.ensures (one_named c.args.text.now c.args.at c.in_ok-open.ensures c.in_err-name.ensures)

pub returns-in_err-next : goal.returns-in_err-next
returns-in_err-next c = rw c.from_residual-in_err-next.ensures (one_closes c.args.text.now c.args.at c.in_ok-open.ensures c.in_ok-name.ensures c.in_err-next.ensures)

pub returns : goal.returns
returns c = one_stands c.args.text.now c.args.at c.in_ok-open.ensures c.in_ok-name.ensures c.in_ok-next.ensures
