use Prim.Native.Nat.{◌+◌, ◌-◌, ℕ}
use lib.ListN.{length}
use mathlib.Core.List.{List}
use mathlib.Core.Path.{◌∙◌, ◌≡◌, ap, refl}
use native.Mathlib.Omega.{arith}
use Rattle.closure.proofs.Passes.{begun_only}
use Rattle.closure.proofs.Steps.{fill_rows_more, fill_rows_none}
use Rattle.closure.specs.Rows.{begun, empty}
use Rattle.words.specs.Sets.{including}
use Rattle.closure.proofs.begin.Goals as goal
use Rattle.closure.proofs.begin.Goals.{After-store}

pub loop-c-init : goal.loop-c-init
loop-c-init c = (omega arith, refl, fill_rows_none 0 (including empty) c.args.work.now)

pub store-requires : goal.store-requires
store-requires c = omega (arith, c.row_at.ensures, c.loop-c.invariant.1, c.requires)

more : (c : After-store) → c.store.new.words ≡ begun c.loop-c.c c.args.work.now
more c =
    let l = c.loop-c in
    let w₀ = c.args.work.now in
    let i : l.c - 1 + 1 ≡ l.c = omega arith in
    let alone = c.with.ensures.words_value ∙ ap (λ (z : List ℕ). including z l.c) c.new.ensures.words_value in
    rw i at (fill_rows_more 0 (including empty) w₀ {at = c.row_at.result} (l.c - 1) l.invariant.2 (rw i alone) (omega (arith, c.row_at.ensures)) c.store.ensures)

pub loop-c-preserved : goal.loop-c-preserved
loop-c-preserved c =
    let m = more (goal.at.loop-c-preserved c).After-store in
    let i : c.loop-c.c + 1 - 1 ≡ c.loop-c.c = omega arith in
    (omega arith, ap length m ∙ (begun_only c.loop-c.c c.args.work.now (omega (arith, c.requires))).size, rw i m)

pub returns-2 : goal.returns-2
returns-2 c =
    let all : c.loop-c.c ≡ c.args.n = omega arith in
    rw (← all) (more (goal.at.returns-2 c).After-store)
