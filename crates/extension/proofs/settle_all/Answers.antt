use borrow.Author.Rules.{rules}
use mathlib.Core.Path.{◌≡◌}
use native.Mathlib.Omega.{arith}
use Rattle.frames.proofs.Frames.{only_none, only_then}
use Rattle.extension.proofs.settle_all.Goals as goal

pub loop-n-init : goal.loop-n-init
loop-n-init c = (search rules, c.requires.1, only_none, search rules)

pub settle-requires : goal.settle-requires
settle-requires c = let x = c.loop-n.invariant in let r = c.requires.2 in let s = x.3 in (c.requires.0, x.1, omega arith)

pub loop-n-preserved : goal.loop-n-preserved
loop-n-preserved c = let x = c.loop-n.invariant in let s = x.3 in (search rules, c.settle.ensures.settled, only_then x.2 c.settle.ensures.only, search rules)

pub shape_of-work : goal.shape_of-work
shape_of-work c = c.loop-n.invariant.2.size

pub shape_of-columns : goal.shape_of-columns
shape_of-columns c = c.loop-n.invariant.3

pub returns : goal.returns
returns c =
    let x = c.loop-n in
    let e : x.n ≡ c.args.top = omega arith in
    record { settled = rw e at x.invariant.1; only = x.invariant.2 }
