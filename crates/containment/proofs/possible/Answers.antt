use native.Mathlib.Omega.{arith}
use mathlib.Core.List.{[]}
use mathlib.Core.Path.{ap, refl, sym}
use lib.ListN.{length}
use Rattle.containment.proofs.Laws.{accepting, possible_post, told_possible}
use Rattle.containment.specs.Verdicts.{PossiblePost}
use Rattle.frames.proofs.Work.{done_answered, done_full, done_refused, in_order, outputs_none}
use Rattle.meaning.specs.Answers.{result}
use Rattle.meaning.specs.Operations.{work_refusal}
use Rattle.meaning.specs.Policy.{policy_refusal}
use Rattle.meaning.specs.Refusals.{refusal_number}
use Rattle.meaning.specs.Vocabulary.{vocabulary_refusal}
use Rattle.preparation.proofs.Laws.{worked}
use Rattle.theory.proofs.Numbers.{handed_on, refusal_numbered}
use Rattle.theory.proofs.Refusals.{or_else_early, or_else_first, or_else_zero, policy_early, vocabulary_early}
use Rattle.containment.proofs.possible.Goals as goal

pub returns-in_err-read_policy : goal.returns-in_err-read_policy
returns-in_err-read_policy c =
    let a = c.args in
    let e = c.in_err-read_policy.field-0.0 in
    let r = in_order a.work.now c.in_err-read_policy.ensures.number (or_else_first (refusal_number e) (work_refusal (length a.work.now)) (refusal_numbered e)) in
    let early = or_else_early (vocabulary_refusal a.v.now) (policy_refusal a.v.now a.p.now) (vocabulary_early a.v.now) (policy_early a.v.now a.p.now) in
    handed_on (PossiblePost a.v.now a.p.now a.work.now a.work.now) c.from_residual.result c.from_residual.ensures.1
    (possible_post (done_refused r (told_possible a.v.now a.p.now) [] early (refusal_numbered e)))

pub returns-in_err-check_work : goal.returns-in_err-check_work
returns-in_err-check_work c =
    let a = c.args in
    let e = c.in_err-check_work.field-0.0 in
    let r = in_order a.work.now c.in_ok-read_policy.ensures.number c.in_err-check_work.ensures in
    let early = or_else_early (vocabulary_refusal a.v.now) (policy_refusal a.v.now a.p.now) (vocabulary_early a.v.now) (policy_early a.v.now a.p.now) in
    handed_on (PossiblePost a.v.now a.p.now a.work.now a.work.now) c.from_residual-in_err-check_work.result c.from_residual-in_err-check_work.ensures.1
    (possible_post (done_refused r (told_possible a.v.now a.p.now) [] early (refusal_numbered e)))

pub prepare-f-requires : goal.prepare-f-requires
prepare-f-requires c =
    let a = c.args in
    let n = c.in_ok-read_policy.ensures.number in
    ((or_else_zero (vocabulary_refusal a.v.now) (policy_refusal a.v.now a.p.now) (sym n)).0, done_full (in_order a.work.now n c.in_ok-check_work.ensures) refl)

pub first_possible-answer-requires : goal.first_possible-answer-requires
first_possible-answer-requires c =
    let a = c.args in
    let n = c.in_ok-read_policy.ensures.number in
    let g = c.prepare-f.ensures in
    (omega (arith, done_full (in_order a.work.now n c.in_ok-check_work.ensures) refl, g.only.size), (a.v.now, accepting (sym n) g.prepared))

pub clear-requires : goal.clear-requires
clear-requires c =
    let r = in_order c.args.work.now c.in_ok-read_policy.ensures.number c.in_ok-check_work.ensures in
    omega (arith, done_full r refl, c.prepare-f.ensures.only.size, c.first_possible-answer.ensures.only.size)

pub returns : goal.returns
returns c =
    let a = c.args in
    let n = c.in_ok-read_policy.ensures.number in
    let r = in_order a.work.now n c.in_ok-check_work.ensures in
    let g = c.prepare-f.ensures in
    let t = c.first_possible-answer.ensures in
    possible_post (done_answered r refl {told = told_possible a.v.now a.p.now} refl (ap result (t.possible_by a.v.now (accepting (sym n) g.prepared))) (outputs_none []) (worked g.only t.only) c.clear.ensures)
