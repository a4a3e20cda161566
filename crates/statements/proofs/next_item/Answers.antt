use Rattle.statements.proofs.Parsing.{next_end, next_none, next_says, next_wrong}
use Rattle.statements.proofs.next_item.Goals as goal

pub returns-in_err-t : goal.returns-in_err-t
returns-in_err-t c = rw c.from_residual.ensures (next_none c.args.text.now c.args.at c.in_err-t.ensures)

pub returns-then-is_last : goal.returns-then-is_last
returns-then-is_last c = next_end c.args.text.now c.args.at c.in_ok-t.ensures c.if-is_last.ensures

pub returns-in_err-found : goal.returns-in_err-found
returns-in_err-found c =
    rw c.from_residual-in_err-found.ensures (next_wrong c.args.text.now c.args.at c.in_ok-t.ensures c.if-is_last.ensures c.in_err-found.ensures)

pub returns : goal.returns
returns c = next_says c.args.text.now c.args.at c.in_ok-t.ensures c.if-is_last.ensures c.in_ok-found.ensures
