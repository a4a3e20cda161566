use native.Mathlib.Omega.{arith}
use lib.ListN.{length, length-take}
use mathlib.Core.Path.{◌≡◌}
use Rattle.flattening.proofs.Steps.{words_all, words_more}
use Rattle.flattening.proofs.flatten.Goals as goal

pub loop-i-preserved : goal.loop-i-preserved
loop-i-preserved c =
    let l = c.loop-i in
    let t = c.loop-i-test.true in
    rw c.flat_word.ensures (words_more c.args.v.now l.to-items l.i (omega arith) l.invariant)

pub returns : goal.returns
returns c =
    let l = c.loop-i in
    let a = c.args in
    let t = length-take (length a.v.now) a.flat.now in
    let n : length l.to-items ≡ length a.v.now = omega arith in
    let e : l.i ≡ length a.v.now = omega (arith, l.auto.i-end, c.loop-i-test.false) in
    words_all a.v.now a.flat.now l.to-items n (rw e at l.invariant) c.requires
