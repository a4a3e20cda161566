use borrow.Author.Rules.{rules}
use Prim.Native.Nat.{◌-◌, ℕ}
use mathlib.Core.Path.{◌≡◌, ap}
use native.Mathlib.Omega.{arith}
use Rattle.records.proofs.Writing.{left_end, left_more, left_start, room_same}
use Rattle.countermodel.proofs.Sizes.{rows_end, rows_length, rows_more}
use Rattle.countermodel.specs.Facts.{facts_from}
use Rattle.theory.proofs.ModelWords.{fact_length}
use Rattle.countermodel.proofs.write_rows.Goals as goal

pub loop-i-init : goal.loop-i-init
loop-i-init c =
    let a = c.args in
    let e : a.t.individuals - 0 ≡ a.t.individuals = omega arith in
    (search rules, left_start _ _ _ _ _ (ap (λ (n : ℕ). facts_from a.work.now a.t n 0) e))

pub write_row-k-requires : goal.write_row-k-requires
write_row-k-requires c =
    let l = c.loop-i in
    let more = c.loop-i-test.true in
    let fits = rows_length c.args.work.now c.args.t c.args.t.individuals l.i more in (
      c.requires.0,
      more,
      record {
        room = room_same l.invariant.1.long c.requires.1.room;
        within = omega (arith, c.requires.1.within, l.invariant.1.count);
      },
    )

pub loop-i-preserved : goal.loop-i-preserved
loop-i-preserved c =
    let l = c.loop-i in (
      search rules,
      left_more fact_length _ _ _ _ _ l.invariant.1 (rows_more c.args.work.now c.args.t c.args.t.individuals l.i c.loop-i-test.true)
          c.requires.1 c.write_row-k.ensures,
    )

pub shape_of-out : goal.shape_of-out
shape_of-out c = c.loop-i.invariant.1.long

pub returns : goal.returns
returns c =
    let a = c.args in
    let l = c.loop-i in
    (left_end _ l.invariant.1 (rows_end a.work.now a.t a.t.individuals l.i c.loop-i-test.false)).words
