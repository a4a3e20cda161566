use native.Mathlib.Omega.{arith}
use Prim.Native.Nat.{◌+◌}
use Rattle.extension.proofs.Marks.{Counting, Telling, counting_ends, counting_on, counting_starts, telling_ends, telling_on, telling_starts}
use Rattle.satisfaction.proofs.Classes.{interpreted_kept}
use Rattle.extension.proofs.mark_all_members.Goals as goal
use Rattle.extension.proofs.mark_all_members.Goals.{After-mark_member}

pub loop-i-init : goal.loop-i-init
loop-i-init c = search (counting_starts, telling_starts)

pub mark_member-requires : goal.mark_member-requires
mark_member-requires c = let i = c.requires.1.readable.individuals in let s = c.loop-i.invariant.holds.only.size in let l = c.requires.1.long in ((omega arith, omega arith), omega arith)

more : (c : After-mark_member) → Counting (Telling c.args.p.now c.args.m.now c.args.k c.args.work.now c.mark_member.new.work) c.individual_count-i-end.result (c.loop-i.i + 1)
more c =
    let pre = c.requires in
    let args = c.args in
    let x = c.loop-i.invariant in
    counting_on x c.loop-i-test.true
    (telling_on args.p.now args.m.now args.k pre.0 (interpreted_kept (omega arith) x.holds.only pre.1) (omega arith, omega arith) c.mark_member.ensures)

pub loop-i-preserved : goal.loop-i-preserved
loop-i-preserved c = more (goal.at.loop-i-preserved c).After-mark_member

pub returns : goal.returns
returns c = telling_ends c.args.p.now c.args.m.now c.args.k (counting_ends c.loop-i.invariant (omega arith))

pub returns-2 : goal.returns-2
returns-2 c = telling_ends c.args.p.now c.args.m.now c.args.k (counting_ends (more (goal.at.returns-2 c).After-mark_member) (omega arith))
