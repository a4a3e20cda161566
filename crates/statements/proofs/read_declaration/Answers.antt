use Rattle.statements.proofs.Front.{declared_begins, declared_class, declared_closes, declared_feature, declared_inner, declared_other, declared_role, declared_sort}
use Rattle.statements.proofs.read_declaration.Goals as goal

pub returns-in_err-open : goal.returns-in_err-open
returns-in_err-open c = rw c.from_residual.ensures (declared_begins c.args.text.now c.args.at c.in_err-open.ensures)

pub returns-in_err-sort : goal.returns-in_err-sort
returns-in_err-sort c =
    rw c.from_residual-in_err-sort.ensures (declared_sort c.args.text.now c.args.at c.in_ok-open.ensures c.in_err-sort.ensures)

pub returns-in_err-inner : goal.returns-in_err-inner
returns-in_err-inner c =
    rw c.from_residual-in_err-inner.ensures
    (declared_inner c.args.text.now c.args.at c.in_ok-open.ensures c.in_ok-sort.ensures c.in_err-inner.ensures)

pub returns-in_err-next : goal.returns-in_err-next
returns-in_err-next c =
    rw c.from_residual-in_err-next.ensures
    (declared_closes c.args.text.now c.args.at c.in_ok-open.ensures c.in_ok-sort.ensures c.in_ok-inner.ensures c.in_err-next.ensures)

pub returns-then-same : goal.returns-then-same
returns-then-same c =
    rw c.statement.ensures
    (declared_class c.args.text.now c.args.at c.in_ok-open.ensures c.in_ok-sort.ensures c.in_ok-inner.ensures c.in_ok-next.ensures c.if-same.ensures)

pub returns-then-same-2 : goal.returns-then-same-2
returns-then-same-2 c =
    rw c.statement-then-same-2.ensures
    (declared_role c.args.text.now c.args.at c.in_ok-open.ensures c.in_ok-sort.ensures c.in_ok-inner.ensures c.in_ok-next.ensures c.if-same.ensures
    c.if-same-2.ensures)

pub returns-then-same-3 : goal.returns-then-same-3
returns-then-same-3 c =
    rw c.statement-then-same-3.ensures
    (declared_feature c.args.text.now c.args.at c.in_ok-open.ensures c.in_ok-sort.ensures c.in_ok-inner.ensures c.in_ok-next.ensures c.if-same.ensures
    c.if-same-2.ensures c.if-same-3.ensures)

pub returns : goal.returns
returns c =
    declared_other c.args.text.now c.args.at c.in_ok-open.ensures c.in_ok-sort.ensures c.in_ok-inner.ensures c.in_ok-next.ensures c.if-same.ensures
    c.if-same-2.ensures c.if-same-3.ensures
