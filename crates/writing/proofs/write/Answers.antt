use Prim.Native.Nat.{◌+◌}
use borrow.Author.Rules.{rules}
use native.Mathlib.Omega.{arith}
use mathlib.Core.Path.{refl}
use Rattle.entries.proofs.Runs.{has_item}
use Rattle.writing.proofs.Counting.{rest_known}
use Rattle.writing.proofs.Whole.{writing_ends, writing_more, writing_room, writing_starts}
use Rattle.writing.proofs.write.Goals as goal

pub loop-i-init : goal.loop-i-init
loop-i-init c = writing_starts _ _ _ _

pub write_entry-requires : goal.write_entry-requires
write_entry-requires c =
    let l = c.loop-i in
    let r = c.requires in
    record {
      item = has_item r.ordered.items l.i refl;
      ordered = rest_known r.ordered (l.i + 1);
      room_from = writing_room l.invariant r (search rules) c.loop-i-test.true refl;
    }

pub overflow_add-k : goal.overflow_add-k
overflow_add-k c = omega (arith, c.loop-i.invariant.count, c.requires.few, c.count_at-k.ensures.few)

pub loop-i-preserved : goal.loop-i-preserved
loop-i-preserved c =
    writing_more c.loop-i.invariant c.requires (search rules) c.loop-i-test.true refl c.count_at-k.ensures (search rules) c.write_entry.ensures

pub returns : goal.returns
returns c =
    let a = c.args in
    writing_ends c.loop-i.invariant c.requires (search rules) c.loop-i-test.false (c.first_link.ensures a.work.now a.depths.now) c.put.ensures
