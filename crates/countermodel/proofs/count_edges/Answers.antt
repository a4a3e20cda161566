use mathlib.Core.Path.{ap}
use native.Mathlib.Omega.{arith}
use lib.ListN.{length}
use Rattle.countermodel.proofs.Edges.{edges_end, edges_more, edges_start}
use Rattle.countermodel.proofs.Sizes.{edges_most}
use Rattle.countermodel.proofs.count_edges.Goals as goal

pub loop-j-init : goal.loop-j-init
loop-j-init c =
    omega (arith, ap length (edges_start c.args.work.now c.args.x c.args.n _ _ c.place.ensures c.requires.0 c.next_successor-j.ensures))

pub overflow_add-found : goal.overflow_add-found
overflow_add-found c = omega (arith, edges_most c.args.work.now c.args.n c.args.x)

pub loop-j-smaller : goal.loop-j-smaller
loop-j-smaller c =
    let a = c.args in
    omega (arith, ap length (edges_more a.work.now a.x a.n c.loop-j.j _ c.loop-j-test.true c.next_successor-j-in-loop-j.ensures))

pub loop-j-preserved : goal.loop-j-preserved
loop-j-preserved c =
    let a = c.args in
    omega (arith, ap length (edges_more a.work.now a.x a.n c.loop-j.j _ c.loop-j-test.true c.next_successor-j-in-loop-j.ensures))

pub returns : goal.returns
returns c =
    let a = c.args in
    omega (arith, ap length (edges_end a.work.now a.x a.n c.loop-j.j c.loop-j-test.false))
