use lib.ListN.{length}
use mathlib.Core.Path.{refl, sym}
use native.Mathlib.Omega.{arith}
use Rattle.containment.proofs.Complying.{compliance_post, pair_ready, settled_late}
use Rattle.containment.specs.Verdicts.{CompliancePost}
use Rattle.decision.specs.Decisions.{settled}
use Rattle.frames.proofs.Work.{done_answered, done_full, done_refused, in_order}
use Rattle.meaning.specs.Operations.{work_refusal}
use Rattle.meaning.specs.Refusals.{refusal_number}
use Rattle.preparation.proofs.Laws.{worked}
use Rattle.theory.proofs.Numbers.{handed_on, refusal_numbered}
use Rattle.theory.proofs.Refusals.{accepted_input, input_early, or_else_first}
use Rattle.containment.proofs.compliance.Goals as goal

pub returns-in_err-check_input : goal.returns-in_err-check_input
returns-in_err-check_input c =
    let a = c.args in
    let e = c.in_err-check_input.field-0.0 in
    let r = in_order a.work.now c.in_err-check_input.ensures (or_else_first (refusal_number e) (work_refusal (length a.work.now)) (refusal_numbered e)) in
    handed_on (CompliancePost a.v.now a.p.now a.q.now a.work.now a.work.now a.out.now a.out.now) c.from_residual.result c.from_residual.ensures.1
    (compliance_post (done_refused r (settled a.v.now a.p.now a.q.now (length a.out.now)) a.out.now (input_early a.v.now a.p.now a.q.now) (refusal_numbered e)))

pub returns-in_err-check_work : goal.returns-in_err-check_work
returns-in_err-check_work c =
    let a = c.args in
    let e = c.in_err-check_work.field-0.0 in
    let r = in_order a.work.now c.in_ok-check_input.ensures c.in_err-check_work.ensures in
    handed_on (CompliancePost a.v.now a.p.now a.q.now a.work.now a.work.now a.out.now a.out.now)
    c.from_residual-in_err-check_work.result c.from_residual-in_err-check_work.ensures.1
    (compliance_post (done_refused r (settled a.v.now a.p.now a.q.now (length a.out.now)) a.out.now (input_early a.v.now a.p.now a.q.now) (refusal_numbered e)))

pub prepare-f-requires : goal.prepare-f-requires
prepare-f-requires c =
    let a = c.args in
    let n = c.in_ok-check_input.ensures in
    ((accepted_input a.v.now a.p.now a.q.now (sym n)).vocabulary, done_full (in_order a.work.now n c.in_ok-check_work.ensures) refl)

pub settle-verdict-requires : goal.settle-verdict-requires
settle-verdict-requires c =
    let a = c.args in
    let n = c.in_ok-check_input.ensures in
    let g = c.prepare-f.ensures in
    (a.v.now, pair_ready (accepted_input a.v.now a.p.now a.q.now (sym n)) (done_full (in_order a.work.now n c.in_ok-check_work.ensures) refl) g.only g.prepared)

pub clear-requires : goal.clear-requires
clear-requires c =
    let r = in_order c.args.work.now c.in_ok-check_input.ensures c.in_ok-check_work.ensures in
    omega (arith, done_full r refl, c.prepare-f.ensures.only.size, c.settle-verdict.ensures.only.size)

pub shape_of-out : goal.shape_of-out
shape_of-out c = c.settle-verdict.ensures.out_len_unchanged

pub returns : goal.returns
returns c =
    let a = c.args in
    let n = c.in_ok-check_input.ensures in
    let r = in_order a.work.now n c.in_ok-check_work.ensures in
    let g = c.prepare-f.ensures in
    let s = c.settle-verdict.ensures in
    let t = s.settled_by a.v.now (pair_ready (accepted_input a.v.now a.p.now a.q.now (sym n)) (done_full r refl) g.only g.prepared) in
    compliance_post (done_answered r refl {told = settled a.v.now a.p.now a.q.now (length a.out.now)} (settled_late _ _ _ _) t.answer t.output (worked g.only s.only) c.clear.ensures)
