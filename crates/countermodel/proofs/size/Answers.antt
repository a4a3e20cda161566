use borrow.Author.Rules.{rules}
use Prim.Native.Nat.{◌-◌, ℕ}
use mathlib.Core.Path.{◌∙◌, ◌≡◌, ap}
use native.Mathlib.Omega.{arith}
use lib.ListN.{length}
use Rattle.countermodel.proofs.Model.{table_facts_lem}
use Rattle.countermodel.proofs.Sizes.{records_most, rows_end, rows_length}
use Rattle.countermodel.specs.Facts.{facts_from, record_count}
use Rattle.countermodel.proofs.size.Goals as goal

pub loop-i-init : goal.loop-i-init
loop-i-init c =
    let a = c.args in
    let e : a.t.individuals - 0 ≡ a.t.individuals = omega arith in
    (search rules, omega (arith, ap (λ (n : ℕ). length (facts_from a.work.now a.t n 0)) e))

pub overflow_add-records : goal.overflow_add-records
overflow_add-records c =
    let l = c.loop-i in
    omega (
      arith,
      c.count_row-records.ensures,
      l.invariant.1,
      records_most c.args.work.now c.args.t c.requires,
      rows_length c.args.work.now c.args.t c.args.t.individuals l.i c.loop-i-test.true,
    )

pub loop-i-preserved : goal.loop-i-preserved
loop-i-preserved c =
    let l = c.loop-i in (
      search rules,
      omega (
        arith,
        c.count_row-records.ensures,
        l.invariant.1,
        rows_length c.args.work.now c.args.t c.args.t.individuals l.i c.loop-i-test.true,
      ),
    )

pub returns : goal.returns
returns c =
    let l = c.loop-i in
    let all : l.records ≡ record_count c.args.work.now c.args.t =
    omega (arith, l.invariant.1, ap length (rows_end c.args.work.now c.args.t c.args.t.individuals l.i c.loop-i-test.false)) in
    record { value = all; counts_model = λ K u m. all ∙ ap length (table_facts_lem c.requires m) }
