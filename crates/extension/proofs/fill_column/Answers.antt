use native.Mathlib.Omega.{arith}
use Prim.Native.Nat.{◌+◌}
use Rattle.extension.proofs.Columns.{Filling, filling_ends, filling_on, filling_starts}
use Rattle.extension.proofs.Marks.{Counting, counting_ends, counting_on, counting_starts}
use Rattle.extension.proofs.fill_column.Goals as goal
use Rattle.extension.proofs.fill_column.Goals.{After-fill_cell}

pub loop-j-init : goal.loop-j-init
loop-j-init c = search (counting_starts, filling_starts)

pub fill_cell-requires : goal.fill_cell-requires
fill_cell-requires c = let f = c.requires in let i = f.interpreted.readable.individuals in let l = f.interpreted.long in let r = f.room in let s = c.loop-j.invariant.holds.only.size in record { sized = f.sized; individual = (omega arith, omega arith); long = l; room = omega arith }

more : (c : After-fill_cell) → Counting (Filling c.args.p.now c.args.m.now c.args.work.now c.args.k c.args.columns.now c.fill_cell.new.columns) c.individual_count-j-end.result (c.loop-j.j + 1)
more c =
    let f = c.requires in
    let r = f.room in
    let x = c.loop-j.invariant in
    let s = x.holds.only.size in
    counting_on x c.loop-j-test.true
    (filling_on f.interpreted.readable f.conjunct (omega arith) (omega arith, omega arith) c.fill_cell.ensures)

pub loop-j-preserved : goal.loop-j-preserved
loop-j-preserved c = more (goal.at.loop-j-preserved c).After-fill_cell

pub returns : goal.returns
returns c = filling_ends (counting_ends c.loop-j.invariant (omega arith))

pub returns-2 : goal.returns-2
returns-2 c = filling_ends (counting_ends (more (goal.at.returns-2 c).After-fill_cell) (omega arith))
