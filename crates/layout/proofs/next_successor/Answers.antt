use borrow.Author.Rules.{rules}
use mathlib.Core.Path.{◌∙◌, ◌≡◌, refl, sym}
use native.Mathlib.Omega.{arith}
use Rattle.layout.proofs.Successors.{next_behind, next_ends, next_here, next_on}
use Rattle.layout.proofs.next_successor.Goals as goal

pub loop-i-init : goal.loop-i-init
loop-i-init c = (search rules, refl)

pub returns-then-parent-x : goal.returns-then-parent-x
returns-then-parent-x c =
    let l = c.loop-i in
    let e = c.parent_of-parent.ensures in
    sym (l.invariant.1 ∙ next_behind _ _ _ l.i c.loop-i-test.true (omega (arith, e, c.if-parent-x.true)))

pub returns-then-parent-x-2 : goal.returns-then-parent-x-2
returns-then-parent-x-2 c =
    let l = c.loop-i in
    let e = c.parent_of-parent.ensures in
    sym (l.invariant.1 ∙ next_here _ _ _ l.i c.loop-i-test.true (sym e ∙ c.if-parent-x-2.true))

pub loop-i-preserved : goal.loop-i-preserved
loop-i-preserved c =
    let l = c.loop-i in
    let e = c.parent_of-parent.ensures in
    (search rules, l.invariant.1 ∙ next_on _ _ _ l.i c.loop-i-test.true (omega (arith, e, c.if-parent-x.false)) (λ d. c.if-parent-x-2.false (e ∙ d)))

pub returns : goal.returns
returns c =
    let l = c.loop-i in
    let e : l.i ≡ c.args.n = omega arith in
    sym (l.invariant.1 ∙ next_ends _ _ _ l.i c.loop-i-test.false ∙ e)
