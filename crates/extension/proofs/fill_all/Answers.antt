use Prim.Native.Nat.{◌+◌, ◌-◌}
use borrow.Author.Rules.{rules}
use mathlib.Core.Path.{◌∙◌, ◌≡◌}
use native.Mathlib.Omega.{arith}
use Rattle.extension.specs.Columns.{FilledTo}
use Rattle.extension.proofs.Columns.{filled_on, filled_starts}
use Rattle.meaning.specs.Records.{last_of}
use Rattle.extension.proofs.fill_all.Goals as goal
use Rattle.extension.proofs.fill_all.Goals.{After-fill}

pub clear-requires : goal.clear-requires
clear-requires c = let i = c.requires.1.readable.individuals in omega arith

pub loop-k-init : goal.loop-k-init
loop-k-init c = (search rules, filled_starts c.requires.2 (c.place.ensures ∙ c.individual_count.ensures) c.clear.ensures, search rules)

pub fill-requires : goal.fill-requires
fill-requires c = let pre = c.requires in let f = pre.0.few in let x = c.loop-k.invariant in record { sized = pre.0; conjunct = (omega arith, omega arith); interpreted = pre.1; room = x.1.room }

more : (c : After-fill) → FilledTo c.args.p.now c.args.m.now c.args.work.now c.args.n c.loop-k.k c.fill.new.columns
more c =
    let i : c.loop-k.k - 1 + 1 ≡ c.loop-k.k = omega arith in
    rw i at (filled_on {c' = c.fill.new.columns} c.requires.1.readable c.loop-k.invariant.1 (rw i c.fill.ensures))

pub loop-k-preserved : goal.loop-k-preserved
loop-k-preserved c =
    let i : c.loop-k.k + 1 - 1 ≡ c.loop-k.k = omega arith in
    (search rules, rw i (more (goal.at.loop-k-preserved c).After-fill), c.fill.ensures.size ∙ c.loop-k.invariant.2)

pub returns : goal.returns
returns c =
    let x = c.loop-k in
    let e : x.k - 1 ≡ last_of 6 c.args.p.now = omega arith in
    rw e at x.invariant.1

pub returns-2 : goal.returns-2
returns-2 c =
    let e : c.loop-k.k ≡ last_of 6 c.args.p.now = omega arith in
    rw (← e) (more (goal.at.returns-2 c).After-fill)
