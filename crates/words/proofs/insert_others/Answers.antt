use Prim.Native.Nat.{◌+◌}
use native.Mathlib.Omega.{arith}
use mathlib.Core.Path.{◌∙◌}
use Rattle.words.proofs.Others.{Filling, filling_ends, filling_has, filling_more, filling_starts}
use Rattle.words.proofs.insert_others.Goals.{else-not-has, then-not-has}
use Rattle.words.proofs.insert_others.Goals as goal

pub loop-x-init : goal.loop-x-init
loop-x-init c = filling_starts _ _ _

pub loop-x-preserved : goal.loop-x-preserved
loop-x-preserved c =
    let l = c.loop-x in
    elim c.if-not-has.branch [
      | then-not-has w ↦ filling_more l.invariant c.loop-x-test.true c.has.ensures w.if-not-has.true (w.words-is ∙ w.insert.ensures)
      | else-not-has w ↦ rw w.words-is (filling_has l.invariant c.loop-x-test.true c.has.ensures w.if-not-has.false)
    ]

-- after the last number
pub returns-after-not-has : goal.returns-after-not-has
returns-after-not-has c =
    let l = c.loop-x in
    filling_ends
    (elim c.if-not-has.branch as (λ _. Filling c.args.named.now c.args.n c.args.words.now (l.x + 1) c.if-not-has.words) [
      | then-not-has w ↦ filling_more l.invariant c.loop-x-test.true c.has.ensures w.if-not-has.true (w.words-is ∙ w.insert.ensures)
      | else-not-has w ↦ rw w.words-is (filling_has l.invariant c.loop-x-test.true c.has.ensures w.if-not-has.false)
    ])
    (omega arith)

pub returns : goal.returns
returns c = filling_ends c.loop-x.invariant c.loop-x-test.false
