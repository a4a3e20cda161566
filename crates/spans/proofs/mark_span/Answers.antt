use Prim.Native.Nat.{◌<◌, ◌≤◌}
use borrow.Author.Rules.{rules}
use lib.ListN.{length-take}
use lib.Seq.{get_or-take}
use native.Mathlib.Omega.{arith}
use Rattle.spans.proofs.Tables.{span_none, spanning_ends, spanning_on, spanning_starts}
use Rattle.spans.proofs.mark_span.Goals as goal

pub returns-then-kind_of-ne4 : goal.returns-then-kind_of-ne4
returns-then-kind_of-ne4 c = search span_none

pub loop-r-init : goal.loop-r-init
loop-r-init c = (search rules, spanning_starts)

pub loop-r-preserved : goal.loop-r-preserved
loop-r-preserved c =
    let r = c.loop-r.r in
    let l : r < c.args.n = omega (arith, length-take c.args.n c.args.cuts.now) in
    (omega arith, spanning_on c.requires c.loop-r.invariant.1 l (rw (get_or-take c.args.n c.args.cuts.now r 0 l) at c.mark_row.ensures))

pub returns : goal.returns
returns c = let l : c.args.n ≤ c.loop-r.r = omega (arith, length-take c.args.n c.args.cuts.now, c.requires.cuts) in search spanning_ends
