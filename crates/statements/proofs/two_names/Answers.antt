use Rattle.statements.proofs.Laws.{two_begins, two_closes, two_named, two_other, two_stands}
use Rattle.statements.proofs.two_names.Goals as goal

pub returns-in_err-open : goal.returns-in_err-open
returns-in_err-open c = rw c.from_residual.ensures (two_begins c.args.text.now c.args.at c.in_err-open.ensures)

pub returns-in_err-first : goal.returns-in_err-first
returns-in_err-first c = rw c.from_residual-in_err-first.ensures (two_named c.args.text.now c.args.at c.in_ok-open.ensures c.in_err-first.ensures)

pub returns-in_err-second : goal.returns-in_err-second
returns-in_err-second c =
    rw c.from_residual-in_err-second.ensures (two_other c.args.text.now c.args.at c.in_ok-open.ensures c.in_ok-first.ensures c.in_err-second.ensures)

pub returns-in_err-next : goal.returns-in_err-next
returns-in_err-next c =
    rw c.from_residual-in_err-next.ensures
    (two_closes c.args.text.now c.args.at c.in_ok-open.ensures c.in_ok-first.ensures c.in_ok-second.ensures c.in_err-next.ensures)

pub returns : goal.returns
returns c = two_stands c.args.text.now c.args.at c.in_ok-open.ensures c.in_ok-first.ensures c.in_ok-second.ensures c.in_ok-next.ensures
