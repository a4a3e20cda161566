use lib.Count.{ones-le}
use lib.ListN.{get_or}
use native.Mathlib.Omega.{arith}
use Rattle.words.proofs.Steps.{counted_all, counted_more, counted_none}
use Rattle.words.proofs.count.Goals as goal

pub loop-word-init : goal.loop-word-init
loop-word-init c = (omega arith, counted_none c.args.words.now)

pub overflow_add-n : goal.overflow_add-n
overflow_add-n c =
    let i = c.loop-word.word-index in
    let few = ones-le 32 (get_or c.args.words.now i 0) (c.type_inv.words i).fits in
    record { fits = omega arith }

pub loop-word-preserved : goal.loop-word-preserved
loop-word-preserved c =
    let l = c.loop-word in
    let ws = c.args.words.now in
    let i = l.word-index in
    let small = (c.type_inv.words i).fits in
    let few = ones-le 32 (get_or ws i 0) small in
    (omega arith, counted_more ws i l.n c.loop-word-test.true small l.invariant.1)

pub returns : goal.returns
returns c = let l = c.loop-word in counted_all c.args.words.now l.word-index l.n c.loop-word-test.false l.invariant.1
