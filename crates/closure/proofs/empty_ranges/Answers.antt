use Prim.Native.Nat.{◌+◌, ◌-◌}
use lib.ListN.{length}
use mathlib.Core.Path.{◌∙◌, ◌≡◌, ap, refl}
use native.Mathlib.Omega.{arith}
use Rattle.closure.proofs.Rows.{fill_rows_only}
use Rattle.closure.proofs.Steps.{fill_rows_more, fill_rows_none}
use Rattle.closure.specs.Rows.{emptied, empty}
use Rattle.meaning.specs.Limits.{most_classes}
use Rattle.closure.proofs.empty_ranges.Goals as goal
use Rattle.closure.proofs.empty_ranges.Goals.{After-store}

pub loop-r-init : goal.loop-r-init
loop-r-init c = (omega arith, refl, fill_rows_none most_classes (λ r. empty) c.args.work.now)

pub store-requires : goal.store-requires
store-requires c = omega (arith, c.row_at.ensures, c.loop-r.invariant.1, c.requires.1)

more : (c : After-store) → c.store.new.words ≡ emptied c.loop-r.r c.args.work.now
more c =
    let l = c.loop-r in
    let i : l.r - 1 + 1 ≡ l.r = omega arith in
    rw i at (fill_rows_more most_classes (λ r. empty) c.args.work.now (l.r - 1) l.invariant.2 c.new.ensures.words_value (rw i c.row_at.ensures) c.store.ensures)

pub loop-r-preserved : goal.loop-r-preserved
loop-r-preserved c =
    let m = more (goal.at.loop-r-preserved c).After-store in
    let i : c.loop-r.r + 1 - 1 ≡ c.loop-r.r = omega arith in
    (omega arith, ap length m ∙ (fill_rows_only most_classes (λ r. empty) (λ r. refl) c.args.work.now c.loop-r.r (omega (arith, c.requires.1))).size, rw i m)

pub returns-2 : goal.returns-2
returns-2 c =
    let all : c.loop-r.r ≡ c.args.n = omega arith in
    rw (← all) (more (goal.at.returns-2 c).After-store)
