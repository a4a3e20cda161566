use borrow.Author.Rules.{rules}
use native.Mathlib.Omega.{arith}
use Rattle.writing.proofs.Words.{entry_few, entry_put, entry_rest, entry_room}
use Rattle.writing.proofs.write_entry.Goals as goal

pub overflow_add-first : goal.overflow_add-first
overflow_add-first c = omega (arith, c.requires.room_from.few)

pub overflow_add-after : goal.overflow_add-after
overflow_add-after c =
    let a = c.args in
    omega (arith, entry_few a.work.now a.depths.now a.e c.requires.room_from c.classes_at-s.ensures c.count-n.ensures)

pub link_beside-beside-requires : goal.link_beside-beside-requires
link_beside-beside-requires c =
    let a = c.args in
    (c.requires.ordered, entry_few a.work.now a.depths.now a.e c.requires.room_from c.classes_at-s.ensures c.count-n.ensures)

pub put-requires : goal.put-requires
put-requires c =
    let a = c.args in
    entry_room a.work.now a.depths.now a.e c.requires.room_from c.classes_at-s.ensures c.count-n.ensures

pub write_classes-requires : goal.write_classes-requires
write_classes-requires c =
    let a = c.args in
    entry_rest a.work.now a.depths.now a.e c.requires.room_from c.classes_at-s.ensures c.count-n.ensures (search rules)

pub returns : goal.returns
returns c =
    let a = c.args in
    entry_put a.work.now a.depths.now a.e c.requires.room_from c.classes_at-s.ensures c.count-n.ensures _
    c.fields_of-x.ensures c.link_below-below.ensures c.link_beside-beside.ensures c.where_any-kind.ensures c.where_any-child.ensures
    c.put.ensures c.write_classes.ensures
