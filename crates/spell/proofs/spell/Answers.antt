use lib.ListN.{length}
use mathlib.Core.Path.{refl, sym}
use native.Mathlib.Omega.{arith}
use Rattle.frames.proofs.Work.{done_answered, done_full, done_refused, in_order}
use Rattle.meaning.specs.Operations.{work_refusal}
use Rattle.meaning.specs.Policy.{policy_of, policy_refusal}
use Rattle.meaning.specs.Refusals.{refusal_number}
use Rattle.meaning.specs.Vocabulary.{vocabulary_of, vocabulary_refusal}
use Rattle.spelling.specs.Operation.{SpellPost}
use Rattle.spelling.specs.Spelling.{spelled}
use Rattle.spell.proofs.Whole.{filed_late, spell_post, told_spelling}
use Rattle.theory.proofs.Numbers.{handed_on, refusal_numbered}
use Rattle.theory.proofs.Refusals.{or_else_early, or_else_first, or_else_zero, policy_early, vocabulary_early}
use Rattle.spell.proofs.spell.Goals as goal

pub returns-in_err-read_policy : goal.returns-in_err-read_policy
returns-in_err-read_policy c =
    let a = c.args in
    let e = c.in_err-read_policy.field-0.0 in
    let r = in_order a.work.now c.in_err-read_policy.ensures.number (or_else_first (refusal_number e) (work_refusal (length a.work.now)) (refusal_numbered e)) in
    let early = or_else_early (vocabulary_refusal a.v.now) (policy_refusal a.v.now a.p.now) (vocabulary_early a.v.now) (policy_early a.v.now a.p.now) in
    handed_on (SpellPost a.v.now a.p.now a.work.now a.work.now a.out.now a.out.now) c.from_residual.result c.from_residual.ensures.1
    (spell_post (done_refused r (told_spelling a.v.now a.p.now (length a.out.now)) a.out.now early (refusal_numbered e)))

pub returns-in_err-check_work : goal.returns-in_err-check_work
returns-in_err-check_work c =
    let a = c.args in
    let e = c.in_err-check_work.field-0.0 in
    let r = in_order a.work.now c.in_ok-read_policy.ensures.number c.in_err-check_work.ensures in
    let early = or_else_early (vocabulary_refusal a.v.now) (policy_refusal a.v.now a.p.now) (vocabulary_early a.v.now) (policy_early a.v.now a.p.now) in
    handed_on (SpellPost a.v.now a.p.now a.work.now a.work.now a.out.now a.out.now) c.from_residual-in_err-check_work.result c.from_residual-in_err-check_work.ensures.1
    (spell_post (done_refused r (told_spelling a.v.now a.p.now (length a.out.now)) a.out.now early (refusal_numbered e)))

pub lay_out-t-requires : goal.lay_out-t-requires
lay_out-t-requires c =
    let a = c.args in
    let n = c.in_ok-read_policy.ensures.number in
    let b = or_else_zero (vocabulary_refusal a.v.now) (policy_refusal a.v.now a.p.now) (sym n) in
    (b.0, b.1, done_full (in_order a.work.now n c.in_ok-check_work.ensures) refl)

pub file-answer-requires : goal.file-answer-requires
file-answer-requires c = c.lay_out-t.ensures.laid_out.listed

pub clear-requires : goal.clear-requires
clear-requires c =
    let r = in_order c.args.work.now c.in_ok-read_policy.ensures.number c.in_ok-check_work.ensures in
    omega (arith, done_full r refl, c.lay_out-t.ensures.only.size)

pub returns : goal.returns
returns c =
    let a = c.args in
    let r = in_order a.work.now c.in_ok-read_policy.ensures.number c.in_ok-check_work.ensures in
    let l = c.lay_out-t.ensures in
    let P = spelled (vocabulary_of a.v.now) (policy_of a.p.now) in
    let f = c.file-answer.ensures.filed_by P l.laid_out.holds in
    spell_post (done_answered r refl {told = told_spelling a.v.now a.p.now (length a.out.now)} (filed_late P (length a.out.now)) f.answer f.output l.only c.clear.ensures)
