use mathlib.Core.Path.{◌∙◌, refl, sym}
use native.Mathlib.Omega.{arith}
use Rattle.entries.proofs.Runs.{has_item}
use Rattle.arrangement.proofs.Finding.{comparable, finding_starts, finds_before, finds_further, finds_last, finds_same, here}
use Rattle.arrangement.proofs.find_place.Goals as goal

pub depth_of-d-requires : goal.depth_of-d-requires
depth_of-d-requires c = has_item c.requires.0.items c.args.a refl

pub loop-end-init : goal.loop-end-init
loop-end-init c =
    let a = c.args in
    finding_starts a.work.now a.depths.now a.order.now c.requires.0 c.requires.1 c.depth_of-d.ensures

pub is_at-requires : goal.is_at-requires
is_at-requires c = let g = c.requires.0 in record { items = g.items; inside = (let i = g.inside in omega arith); few = g.few }

pub run_end-end-requires : goal.run_end-end-requires
run_end-end-requires c =
    let a = c.args in
    let g = c.requires.0 in
    record { items = g.items; inside = here a.work.now a.depths.now a.order.now c.loop-end.invariant (sym c.is_at.ensures ∙ c.loop-end-test.true); few = g.few }

pub compare_runs-requires : goal.compare_runs-requires
compare_runs-requires c =
    let a = c.args in
    comparable a.work.now a.depths.now a.order.now c.requires.0 c.requires.1 c.run_end-end.ensures

pub returns-in-Less : goal.returns-in-Less
returns-in-Less c =
    let a = c.args in
    finds_before a.work.now a.depths.now a.order.now c.loop-end.invariant (sym c.is_at.ensures ∙ c.loop-end-test.true) c.run_end-end.ensures c.compare_runs.ensures c.in-Less.is

pub returns-in-Equal : goal.returns-in-Equal
returns-in-Equal c =
    let a = c.args in
    finds_same a.work.now a.depths.now a.order.now c.loop-end.invariant (sym c.is_at.ensures ∙ c.loop-end-test.true) c.run_end-end.ensures c.compare_runs.ensures c.in-Equal.is

pub loop-end-preserved : goal.loop-end-preserved
loop-end-preserved c =
    let a = c.args in
    finds_further a.work.now a.depths.now a.order.now c.loop-end.invariant (sym c.is_at.ensures ∙ c.loop-end-test.true) c.run_end-end.ensures c.compare_runs.ensures c.in-Greater.is

pub returns : goal.returns
returns c =
    let a = c.args in
    finds_last a.work.now a.depths.now a.order.now c.loop-end.invariant (sym c.is_at.ensures ∙ c.loop-end-test.false)
