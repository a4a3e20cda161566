use mathlib.Core.Path.{refl}
use native.Mathlib.Omega.{arith}
use Rattle.words.proofs.Steps.{next_end, next_fits, next_found, next_word}
use Rattle.words.proofs.next.Goals as goal

pub loop-above-init : goal.loop-above-init
loop-above-init c = refl

pub overflow_add-result : goal.overflow_add-result
overflow_add-result c =
    let at = c.place-in-loop-above in
    let small = (c.type_inv.words at.result).fits in
    let ws = c.args.words.now in
    let i = c.loop-above.i in
    let bound = next_fits ws i at.result at.ensures (omega arith) small c.if-above-ne0.true in
    record { fits = omega (arith, c.requires) }

pub overflow_add-result-then-above-ne0 : goal.overflow_add-result-then-above-ne0
overflow_add-result-then-above-ne0 c =
    let at = c.place-in-loop-above in
    let small = (c.type_inv.words at.result).fits in
    let ws = c.args.words.now in
    let i = c.loop-above.i in
    let bound = next_fits ws i at.result at.ensures (omega arith) small c.if-above-ne0.true in
    record { fits = omega (arith, c.requires) }

pub returns-then-above-ne0 : goal.returns-then-above-ne0
returns-then-above-ne0 c =
    let a = c.args in
    let l = c.loop-above in
    let at = c.place-in-loop-above in
    let small = (c.type_inv.words at.result).fits in
    next_found a.words.now a.x l.i at.result at.ensures l.invariant small c.if-above-ne0.true

pub loop-above-preserved : goal.loop-above-preserved
loop-above-preserved c =
    let a = c.args in
    let l = c.loop-above in
    let at = c.place-in-loop-above in
    next_word a.words.now a.x l.i at.result at.ensures l.invariant c.if-above-ne0.false

pub returns : goal.returns
returns c =
    let a = c.args in
    let l = c.loop-above in
    let at = c.place in
    next_end a.words.now a.x l.i at.result at.ensures l.invariant c.loop-above-test.false
