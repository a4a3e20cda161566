use mathlib.Core.Path.{refl}
use Rattle.statements.proofs.Front.{front_below, front_disjoint, front_functional_feature, front_functional_role, front_other, front_range, one_missing, one_stated}
use Rattle.statements.proofs.Front.{stated_declared, two_missing, two_stated}
use Rattle.statements.specs.Forms.{class, feature, role}
use Rattle.statements.proofs.read_statement.Goals as goal

pub returns-then-same : goal.returns-then-same
returns-then-same c = stated_declared c.args.text.now c.args.t c.requires c.if-same.ensures _ c.read_declaration.ensures

pub returns-in_err-names : goal.returns-in_err-names
returns-in_err-names c =
    rw c.from_residual.ensures (two_missing c.args.text.now c.args.t 1 _ class class front_below c.if-same-2.ensures c.in_err-names.ensures)

pub returns-then-same-2 : goal.returns-then-same-2
returns-then-same-2 c =
    rw c.statement.ensures
    (two_stated c.args.text.now c.args.t 1 _ class class front_below c.if-same-2.ensures c.requires c.in_ok-names.ensures _ refl (c.in_ok-names.ensures.first, c.in_ok-names.ensures.second))

pub returns-in_err-names-2 : goal.returns-in_err-names-2
returns-in_err-names-2 c =
    rw c.from_residual-in_err-names-2.ensures (two_missing c.args.text.now c.args.t 2 _ class class front_disjoint c.if-same-3.ensures c.in_err-names-2.ensures)

pub returns-then-same-3 : goal.returns-then-same-3
returns-then-same-3 c =
    rw c.statement-then-same-3.ensures
    (two_stated c.args.text.now c.args.t 2 _ class class front_disjoint c.if-same-3.ensures c.requires c.in_ok-names-2.ensures _ refl (c.in_ok-names-2.ensures.first, c.in_ok-names-2.ensures.second))

pub returns-in_err-one : goal.returns-in_err-one
returns-in_err-one c =
    rw c.from_residual-in_err-one.ensures (one_missing c.args.text.now c.args.t 3 _ role front_functional_role c.if-same-4.ensures c.in_err-one.ensures)

pub returns-then-same-4 : goal.returns-then-same-4
returns-then-same-4 c =
    rw c.statement-then-same-4.ensures
    (one_stated c.args.text.now c.args.t 3 _ role front_functional_role c.if-same-4.ensures c.requires c.in_ok-one.ensures _ refl c.in_ok-one.ensures.within)

pub returns-in_err-one-2 : goal.returns-in_err-one-2
returns-in_err-one-2 c =
    rw c.from_residual-in_err-one-2.ensures (one_missing c.args.text.now c.args.t 4 _ feature front_functional_feature c.if-same-5.ensures c.in_err-one-2.ensures)

pub returns-then-same-5 : goal.returns-then-same-5
returns-then-same-5 c =
    rw c.statement-then-same-5.ensures
    (one_stated c.args.text.now c.args.t 4 _ feature front_functional_feature c.if-same-5.ensures c.requires c.in_ok-one-2.ensures _ refl c.in_ok-one-2.ensures.within)

pub returns-in_err-names-3 : goal.returns-in_err-names-3
returns-in_err-names-3 c =
    rw c.from_residual-in_err-names-3.ensures (two_missing c.args.text.now c.args.t 5 _ role class front_range c.if-same-6.ensures c.in_err-names-3.ensures)

pub returns-then-same-6 : goal.returns-then-same-6
returns-then-same-6 c =
    rw c.statement-then-same-6.ensures
    (two_stated c.args.text.now c.args.t 5 _ role class front_range c.if-same-6.ensures c.requires c.in_ok-names-3.ensures _ refl (c.in_ok-names-3.ensures.first, c.in_ok-names-3.ensures.second))

pub returns : goal.returns
returns c =
    front_other _ _ c.if-same.ensures c.if-same-2.ensures c.if-same-3.ensures c.if-same-4.ensures c.if-same-5.ensures c.if-same-6.ensures
