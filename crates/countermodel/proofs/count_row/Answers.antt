use Prim.Native.Nat.{◌+◌}
use mathlib.Core.Path.{◌≡◌}
use native.Mathlib.Omega.{arith}
use lib.ListN.{length}
use Rattle.countermodel.proofs.Sizes.{row_counted, row_most}
use Rattle.countermodel.specs.Facts.{facts_at}
use Rattle.countermodel.proofs.count_row.Goals as goal

pub returns : goal.returns
returns c =
    row_counted c.args.work.now c.args.t c.args.i c.place.ensures c.classes_of.ensures c.count-classes.ensures c.place-3.ensures
    c.count_values-values.ensures c.place-2.ensures c.count_edges-edges.ensures

-- the sum is a few
pub overflow_add-result : goal.overflow_add-result
overflow_add-result c =
    let e : c.place-3.result + c.count_values-values.result + c.count_edges-edges.result ≡ length (facts_at c.args.work.now c.args.t c.args.i) = returns c in
    omega (arith, row_most c.args.work.now c.args.t c.requires.0 c.args.i)

pub overflow_add-result-2 : goal.overflow_add-result-2
overflow_add-result-2 c =
    let e : c.place-3.result + c.count_values-values.result + c.count_edges-edges.result ≡ length (facts_at c.args.work.now c.args.t c.args.i) = returns c in
    omega (arith, row_most c.args.work.now c.args.t c.requires.0 c.args.i)
