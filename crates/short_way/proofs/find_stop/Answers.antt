use mathlib.Core.Path.{◌∙◌}
use native.Mathlib.Omega.{arith}
use borrow.Author.Tests.{not-false, not-true}
use Rattle.frames.proofs.Frames.{only_none, only_then}
use Rattle.policy.proofs.Terms.{asking_falls, asking_room, asking_starts, asking_term}
use Rattle.preparation.proofs.Laws.{prepared_kept}
use Rattle.short_way.proofs.Passing.{asking_askable, behind_starts, passes_on, stops_ended, stops_found}
use Rattle.short_way.proofs.find_stop.Goals as goal

pub loop-k-init : goal.loop-k-init
loop-k-init c = (λ v r. asking_starts r.first c.first_term-k.ensures (behind_starts v _ _), only_none)

pub does_pass-requires : goal.does_pass-requires
does_pass-requires c =
    let i = c.loop-k.invariant in
    let r = c.requires in
    (r.0, asking_askable r.1 i.1 (i.0 r.0 r.1) c.loop-k-test.true)

pub shape_of-work-then-not-does_pass : goal.shape_of-work-then-not-does_pass
shape_of-work-then-not-does_pass c = c.does_pass.ensures.only.size ∙ c.loop-k.invariant.1.size

pub returns-then-not-does_pass : goal.returns-then-not-does_pass
returns-then-not-does_pass c =
    let i = c.loop-k.invariant in
    let t = c.does_pass.ensures in
    let n = c.loop-k-test.true in record { stops_by = λ v r. let a = i.0 v r in stops_found a n (t.passes_by v (prepared_kept i.1 r.prepared) (asking_term a n).named) (not-true _ c.if-not-does_pass.true-raw); only = only_then i.1 t.only }

pub overflow_add-s : goal.overflow_add-s
overflow_add-s c = omega (arith, asking_room (c.loop-k.invariant.0 c.requires.0 c.requires.1) c.loop-k-test.true)

pub loop-k-smaller : goal.loop-k-smaller
loop-k-smaller c = asking_falls (c.loop-k.invariant.0 c.requires.0 c.requires.1) c.loop-k-test.true c.next_of-k.ensures

pub loop-k-preserved : goal.loop-k-preserved
loop-k-preserved c =
    let i = c.loop-k.invariant in
    let t = c.does_pass.ensures in
    let n = c.loop-k-test.true in (
      λ v r.
          let a = i.0 v r in
          passes_on a n (t.passes_by v (prepared_kept i.1 r.prepared) (asking_term a n).named) (not-false _ c.if-not-does_pass.false-raw) c.next_of-k.ensures,
      only_then i.1 t.only,
    )

pub shape_of-work : goal.shape_of-work
shape_of-work c = c.loop-k.invariant.1.size

pub returns : goal.returns
returns c = record { stops_by = λ v r. stops_ended (c.loop-k.invariant.0 v r) c.loop-k-test.false; only = c.loop-k.invariant.1 }
