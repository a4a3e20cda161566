use mathlib.Core.Path.{◌∙◌, ◌≡◌, subst, sym}
use Prim.Native.Nat.{ℕ}
use native.Mathlib.Omega.{arith}
use Rattle.countermodel.proofs.Pairs.{Best, best_inside, best_kept, best_new, best_next, best_start, inside}
use Rattle.countermodel.proofs.next_pair.Goals as goal
use Rattle.countermodel.proofs.next_pair.Goals.{else-is_better, then-is_better}

pub loop-i-init : goal.loop-i-init
loop-i-init c = best_start _ _ _ _

pub is_better-requires : goal.is_better-requires
is_better-requires c =
    let a = c.args in
    let r = c.requires in
    let b = best_inside a.work.now a.n a.x a.m c.loop-i.i c.loop-i.best c.loop-i.invariant in
    (inside a.work.now a.n a.m r.1 r.0, inside a.work.now a.n c.loop-i.best r.1 b, (omega (arith, r.1.0, c.loop-i-test.true), r.1.1))

pub loop-i-preserved : goal.loop-i-preserved
loop-i-preserved c =
    let a = c.args in
    let l = c.loop-i in
    let told = c.is_better.ensures in
    let more = c.loop-i-test.true in
    elim c.if-is_better.branch [
      | then-is_better v ↦ rw v.best-is (best_new a.work.now a.n a.x a.m l.i l.best l.invariant (sym told ∙ v.if-is_better.true) more)
      | else-is_better v ↦ rw v.best-is (best_kept a.work.now a.n a.x a.m l.i l.best l.invariant (sym told ∙ v.if-is_better.false))
    ]

pub returns : goal.returns
returns c =
    let a = c.args in
    let l = c.loop-i in
    let e : l.i ≡ a.n = omega (arith, c.loop-i-test.false, l.auto.i-end) in
    let b = subst (λ (i : ℕ). Best a.work.now a.n a.x a.m i l.best) e l.invariant in
    (best_inside a.work.now a.n a.x a.m a.n l.best b, best_next a.work.now a.n a.x a.m l.best b)
