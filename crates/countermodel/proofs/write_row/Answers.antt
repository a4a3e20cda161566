use borrow.Author.Rules.{rules}
use mathlib.Core.Path.{◌∙◌, refl}
use native.Mathlib.Omega.{arith}
use Rattle.records.proofs.Writing.{three_written}
use Rattle.records.proofs.Writing.{room_same}
use Rattle.countermodel.proofs.Sizes.{row_length}
use Rattle.countermodel.specs.Facts.{facts_at}
use Rattle.theory.proofs.ModelWords.{fact_length}
use Rattle.countermodel.proofs.write_row.Goals as goal

pub write_classes-a-requires : goal.write_classes-a-requires
write_classes-a-requires c =
    let fits = row_length c.args.work.now c.args.t c.args.i in
    (search rules, record { room = c.requires.2.room; within = omega (arith, c.requires.2.within) })

pub write_values-b-requires : goal.write_values-b-requires
write_values-b-requires c =
    let a = c.write_classes-a.ensures in (
      search rules,
      record {
        room = room_same a.same c.requires.2.room;
        within = omega (arith, a.count, c.requires.2.within, row_length c.args.work.now c.args.t c.args.i);
      },
    )

pub write_edges-requires : goal.write_edges-requires
write_edges-requires c =
    let a = c.write_classes-a.ensures in
    let b = c.write_values-b.ensures in
    rw c.place.ensures (
      search rules,
      search rules,
      record {
        room = room_same (b.same ∙ a.same) c.requires.2.room;
        within = omega (arith, a.count, b.count, c.requires.2.within, row_length c.args.work.now c.args.t c.args.i);
      },
    )

pub shape_of-out : goal.shape_of-out
shape_of-out c = c.write_edges.ensures.same ∙ c.write_values-b.ensures.same ∙ c.write_classes-a.ensures.same

pub returns : goal.returns
unfolding facts_at
returns c =
    three_written fact_length refl c.requires.2 c.write_classes-a.ensures c.write_values-b.ensures
    (rw c.place.ensures at c.write_edges.ensures)
