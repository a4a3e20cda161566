use native.Mathlib.Omega.{arith}
use Rattle.model_check.proofs.Whole.{checkable, refuses_tables, refuses_work, says_it}
use Rattle.model_check.specs.Judging.{ModelCheckPost}
use Rattle.theory.proofs.Numbers.{handed_on}
use Rattle.model_check.proofs.model_check.Goals as goal

pub returns-in_err-check_tables : goal.returns-in_err-check_tables
returns-in_err-check_tables c =
    let a = c.args in
    handed_on (ModelCheckPost a.v.now a.p.now a.q.now a.m.now a.work.now a.work.now) c.from_residual.result c.from_residual.ensures.1
    (refuses_tables c.in_err-check_tables.ensures)

pub returns-in_err-check_work : goal.returns-in_err-check_work
returns-in_err-check_work c =
    let a = c.args in
    let r = c.from_residual-in_err-check_work in
    handed_on (ModelCheckPost a.v.now a.p.now a.q.now a.m.now a.work.now a.work.now) r.result r.ensures.1
    (refuses_work c.in_ok-check_tables.ensures c.in_err-check_work.ensures)

pub does_refute-yes-requires : goal.does_refute-yes-requires
does_refute-yes-requires c = checkable c.in_ok-check_tables.ensures c.in_ok-check_work.ensures

pub clear-requires : goal.clear-requires
clear-requires c = let full = (checkable c.in_ok-check_tables.ensures c.in_ok-check_work.ensures).long in omega arith

pub returns : goal.returns
returns c = says_it c.in_ok-check_tables.ensures c.in_ok-check_work.ensures c.does_refute-yes.ensures.value c.does_refute-yes.ensures.only c.clear.ensures
