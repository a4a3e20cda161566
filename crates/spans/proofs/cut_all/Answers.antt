use Prim.Native.Nat.{◌+◌, ◌-◌}
use borrow.Author.Rules.{rules}
use mathlib.Core.Path.{◌∙◌, ◌≡◌}
use native.Mathlib.Omega.{arith}
use Rattle.spans.proofs.Cuts.{Cutting, cutting_ends, cutting_on, cutting_starts}
use Rattle.spans.proofs.cut_all.Goals as goal
use Rattle.spans.proofs.cut_all.Goals.{After-add_cuts-n}

pub loop-k-init : goal.loop-k-init
loop-k-init c =
    let i : c.args.first + 1 - 1 ≡ c.args.first = omega arith in
    (search rules, rw i cutting_starts, search rules)

more : (c : After-add_cuts-n) → Cutting c.args.p.now c.args.first c.loop-k.k c.add_cuts-n.new.cuts c.add_cuts-n.result
more c =
    let i : c.loop-k.k - 1 + 1 ≡ c.loop-k.k = omega arith in
    rw i at (cutting_on c.loop-k.invariant.1 {e' = c.add_cuts-n.new.cuts} {r = c.add_cuts-n.result} (rw i c.add_cuts-n.ensures))

pub loop-k-preserved : goal.loop-k-preserved
loop-k-preserved c =
    let i : c.loop-k.k + 1 - 1 ≡ c.loop-k.k = omega arith in
    (search rules, rw i (more (goal.at.loop-k-preserved c).After-add_cuts-n), c.add_cuts-n.ensures.same ∙ c.loop-k.invariant.2)

pub returns : goal.returns
returns c = cutting_ends c.loop-k.invariant.1 (omega arith)

pub returns-2 : goal.returns-2
returns-2 c = cutting_ends (more (goal.at.returns-2 c).After-add_cuts-n) (omega arith)
