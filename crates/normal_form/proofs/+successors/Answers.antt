use borrow.Author.Rules.{rules}
use Rattle.normal_form.proofs.Building.{below_falls, below_room, build_ends, build_on, build_skip, build_starts, individual_fits, waits}
use Rattle.normal_form.proofs.+successors.Goals as goal

pub loop-at-init : goal.loop-at-init
loop-at-init t c = search build_starts

pub loop-at-preserved-then-k-eq0 : goal.loop-at-preserved-then-k-eq0
loop-at-preserved-then-k-eq0 t c = search build_skip

pub node-g-requires : goal.node-g-requires
node-g-requires t c = search waits

pub overflow_add-here : goal.overflow_add-here
overflow_add-here t c = search (rules, individual_fits)

pub successors-u-requires : goal.successors-u-requires
successors-u-requires t c = let going = c.loop-at.invariant in
    let more = c.loop-at-test.true in
    let some = c.if-k-eq0.false in
    (below_falls going more some c.node-g.ensures c.decreases, below_room going more some c.node-g.ensures)

pub loop-at-preserved : goal.loop-at-preserved
loop-at-preserved t c = search build_on

pub returns : goal.returns
returns t c = search build_ends
