use mathlib.Core.Path.{◌∙◌, ap, refl, sym}
use native.Mathlib.Omega.{arith}
use borrow.Author.Tests.{not-false, not-true}
use Rattle.containment.proofs.Laws.{possible_found, possible_on}
use Rattle.frames.proofs.Frames.{only_none, only_then}
use Rattle.meaning.specs.Answers.{result}
use Rattle.policy.proofs.Terms.{asking_ends, asking_falls, asking_found, asking_on, asking_room, asking_starts, asking_term}
use Rattle.preparation.proofs.Laws.{prepared_kept}
use Rattle.tabulation.proofs.Laws.{term_ready}
use Rattle.containment.proofs.first_possible.Goals as goal

pub loop-k-init : goal.loop-k-init
loop-k-init c = (λ v a. asking_starts a.policy c.first_term-k.ensures refl, only_none)

pub tabulate-t-requires : goal.tabulate-t-requires
tabulate-t-requires c =
    let i = c.loop-k.invariant in
    let q = c.requires in
    term_ready q.1.1.prepared (omega (arith, q.0)) i.1 (i.0 q.1.0 q.1.1) c.loop-k-test.true

pub shape_of-work-then-not-t : goal.shape_of-work-then-not-t
shape_of-work-then-not-t c = c.tabulate-t.ensures.only.size ∙ c.loop-k.invariant.1.size

pub returns-then-not-t : goal.returns-then-not-t
returns-then-not-t c =
    let i = c.loop-k.invariant in
    let t = c.tabulate-t.ensures in
    let n = c.loop-k-test.true in record {
      possible_by = λ v a.
          let x = i.0 v a in
          asking_found x n (λ l e. sym (possible_found _ _ _ (t.impossible v (prepared_kept i.1 a.prepared) (asking_term x n).named) (not-true _ c.if-not-t.true) l) ∙ e);
      only = only_then i.1 t.only;
    }

pub overflow_add-s : goal.overflow_add-s
overflow_add-s c = omega (arith, asking_room (c.loop-k.invariant.0 c.requires.1.0 c.requires.1.1) c.loop-k-test.true)

pub loop-k-smaller : goal.loop-k-smaller
loop-k-smaller c = asking_falls (c.loop-k.invariant.0 c.requires.1.0 c.requires.1.1) c.loop-k-test.true c.next_of-k.ensures

pub loop-k-preserved : goal.loop-k-preserved
loop-k-preserved c =
    let i = c.loop-k.invariant in
    let t = c.tabulate-t.ensures in
    let n = c.loop-k-test.true in (
      λ v a.
          let x = i.0 v a in
          asking_on x n c.next_of-k.ensures (λ l e. sym (possible_on _ _ _ (t.impossible v (prepared_kept i.1 a.prepared) (asking_term x n).named) (not-false _ c.if-not-t.false) l) ∙ e),
      only_then i.1 t.only,
    )

pub shape_of-work : goal.shape_of-work
shape_of-work c = c.loop-k.invariant.1.size

pub returns : goal.returns
returns c = record { possible_by = λ v a. asking_ends (c.loop-k.invariant.0 v a) c.loop-k-test.false; only = c.loop-k.invariant.1 }
