use native.Mathlib.Omega.{arith}
use Prim.Native.Nat.{◌/◌, ◌≤◌}
use lib.ListN.{length, length-take}
use Rattle.std.proofs.lemmas.List.{take-append-le}
use mathlib.Core.Path.{◌∙◌, ◌≡◌}
use Rattle.input.proofs.Words.{decode_more}
use Rattle.input.proofs.decode.Goals as goal

pub loop-i-preserved : goal.loop-i-preserved
loop-i-preserved c =
    let l = c.loop-i in
    let t = c.loop-i-test.true in
    rw c.word_at.ensures (decode_more c.args.input.now l.word-items l.i (omega arith) l.invariant)

pub returns : goal.returns
returns c =
    let l = c.loop-i in
    let n = length c.args.input.now / 4 in
    let t = length-take n c.args.words.now in
    let m : n ≤ length l.word-items = omega (arith, l.auto.word-items) in
    let e : l.i ≡ n = omega (arith, l.auto.i-end, c.loop-i-test.false) in
    take-append-le n l.word-items _ m ∙ (rw e at l.invariant)
