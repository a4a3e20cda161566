use borrow.Author.Rules.{rules}
use mathlib.Core.Path.{◌∙◌, ap, refl}
use lib.ListN.{length}
use native.Mathlib.Omega.{arith}
use Rattle.decision.proofs.Policies.{delivers_compliant, term_fails, term_few, term_only, term_passes, term_standing}
use Rattle.decision.proofs.Policies.{undecided_starts}
use Rattle.decision.proofs.Terms.{term_triable}
use Rattle.frames.proofs.Frames.{only_none, only_then}
use Rattle.policy.proofs.Terms.{asking_ends, asking_falls, asking_room, asking_term}
use Rattle.preparation.proofs.Laws.{prepared_kept}
use Rattle.tabulation.proofs.Laws.{term_ready}
use Rattle.decision.proofs.decide.Goals as goal

pub loop-k-init : goal.loop-k-init
loop-k-init c = (λ v a. undecided_starts v _ _ a.few a.left, only_none, refl)

pub tabulate-t-requires : goal.tabulate-t-requires
tabulate-t-requires c =
    let i = c.loop-k.invariant in
    let r = c.requires.0 in
    term_ready r.1.ready.prepared (omega arith) i.1 (i.0 r.0 r.1) c.loop-k-test.true

pub failure_of-requires : goal.failure_of-requires
failure_of-requires c =
    let i = c.loop-k.invariant in
    let r = c.requires.0 in
    let a = i.0 r.0 r.1 in
    let n = c.loop-k-test.true in
    λ h. term_triable (prepared_kept i.1 r.1.ready.prepared) (asking_term a n).named c.tabulate-t.ensures h r.1.ready.second c.requires.1 (term_few _ a n)

pub report-requires : goal.report-requires
report-requires c = term_standing c.tabulate-t.ensures c.failure_of.ensures

pub shape_of-work-in-Some : goal.shape_of-work-in-Some
shape_of-work-in-Some c = c.failure_of.ensures.only.size ∙ c.tabulate-t.ensures.only.size ∙ c.loop-k.invariant.1.size

pub shape_of-out-in-Some : goal.shape_of-out-in-Some
shape_of-out-in-Some c = c.report.ensures.out_len_unchanged ∙ ap length c.loop-k.invariant.2

pub returns-in-Some : goal.returns-in-Some
returns-in-Some c =
    let i = c.loop-k.invariant in
    let n = c.loop-k-test.true in
    let d = c.tabulate-t.ensures in
    let g = c.failure_of.ensures in
    let r = c.report.ensures in record { decides = λ v a. term_fails _ (i.0 v a) n (prepared_kept i.1 a.ready.prepared) d g c.in-Some.is i.2 r.reports; only = only_then i.1 (term_only d g); out_len_unchanged = r.out_len_unchanged ∙ ap length i.2 }

pub overflow_add-s : goal.overflow_add-s
overflow_add-s c = omega (arith, asking_room (c.loop-k.invariant.0 c.requires.0.0 c.requires.0.1) c.loop-k-test.true)

pub loop-k-smaller : goal.loop-k-smaller
loop-k-smaller c = asking_falls (c.loop-k.invariant.0 c.requires.0.0 c.requires.0.1) c.loop-k-test.true c.next_of-k.ensures

pub loop-k-preserved : goal.loop-k-preserved
loop-k-preserved c =
    let i = c.loop-k.invariant in
    let n = c.loop-k-test.true in
    let d = c.tabulate-t.ensures in
    let g = c.failure_of.ensures in (
      λ v a. term_passes _ (i.0 v a) n (prepared_kept i.1 a.ready.prepared) d g (search rules) c.next_of-k.ensures,
      only_then i.1 (term_only d g),
      i.2,
    )

pub shape_of-work : goal.shape_of-work
shape_of-work c = c.loop-k.invariant.1.size

pub shape_of-out : goal.shape_of-out
shape_of-out c = ap length c.loop-k.invariant.2

pub returns : goal.returns
returns c =
    let i = c.loop-k.invariant in
    record { decides = λ v a. delivers_compliant _ _ _ _ i.2 (asking_ends (i.0 v a) c.loop-k-test.false).0; only = i.1; out_len_unchanged = ap length i.2 }
