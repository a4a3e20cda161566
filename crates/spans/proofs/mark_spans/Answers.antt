use Prim.Native.Nat.{◌+◌, ◌-◌, ◌≤◌}
use borrow.Author.Rules.{rules}
use mathlib.Core.Path.{◌≡◌}
use native.Mathlib.Omega.{arith}
use Rattle.spans.proofs.Tables.{rowed_on, rowed_starts}
use Rattle.spans.specs.Cuts.{Rowed}
use Rattle.spans.proofs.mark_spans.Goals as goal
use Rattle.spans.proofs.mark_spans.Goals.{After-mark_span}

pub loop-k-init : goal.loop-k-init
loop-k-init c =
    let i : c.args.first + 1 - 1 ≡ c.args.first = omega arith in
    (search rules, search rules, rw i (rowed_starts c.clear.ensures), search rules)

more : (c : After-mark_span) → Rowed c.args.p.now c.args.first c.loop-k.k c.args.cuts.now c.mark_span.new.columns c.args.n
more c =
    let i : c.loop-k.k - 1 + 1 ≡ c.loop-k.k = omega arith in
    let o : c.args.first ≤ c.loop-k.k - 1 = omega arith in
    rw i at (rowed_on {c' = c.mark_span.new.columns} o c.loop-k.invariant.2 (rw i c.mark_span.ensures))

pub loop-k-preserved : goal.loop-k-preserved
loop-k-preserved c =
    let i : c.loop-k.k + 1 - 1 ≡ c.loop-k.k = omega arith in
    (search rules, search rules, rw i (more (goal.at.loop-k-preserved c).After-mark_span), search rules)

pub returns : goal.returns
returns c =
    let x = c.loop-k in
    let e : x.k - 1 ≡ c.args.last = omega arith in
    rw e at x.invariant.2

pub returns-2 : goal.returns-2
returns-2 c =
    let e : c.loop-k.k ≡ c.args.last = omega arith in
    rw (← e) (more (goal.at.returns-2 c).After-mark_span)
