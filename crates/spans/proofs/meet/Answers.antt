use Prim.Native.Nat.{◌+◌, ℕ}
use borrow.Author.Rules.{rules}
use lib.Bits.{bit_and}
use lib.ListN.{get_or, length-set}
use mathlib.Core.Path.{◌∙◌}
use native.Mathlib.Omega.{arith}
use Rattle.words.proofs.Steps.{filled_more}
use Rattle.spans.proofs.meet.Goals as goal

pub loop-i-init : goal.loop-i-init
loop-i-init c = (search rules, search rules, λ j h. absurd (omega arith))

pub loop-i-preserved : goal.loop-i-preserved
loop-i-preserved c =
    let l = c.loop-i in
    let a = c.args in
    let both : ℕ → ℕ = λ j. bit_and (get_or a.columns.now (a.from + j) 0) (get_or a.columns.now (a.mask + j) 0) in
    (search rules, length-set l.words _ _ ∙ l.invariant.1, filled_more both l.words l.i (omega arith) l.invariant.2)

pub returns : goal.returns
returns c = record { words = λ i h. c.loop-i.invariant.2 i (omega arith) }
