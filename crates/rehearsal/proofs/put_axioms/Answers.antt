use native.Mathlib.Omega.{arith}
use Rattle.rehearsal.proofs.Axioms.{axioms_more, axioms_put, axioms_room, axioms_seed, axioms_start}
use Rattle.rehearsal.proofs.put_axioms.Goals as goal

pub loop-k-init : goal.loop-k-init
loop-k-init c = axioms_start _ _ _ _ c.requires.0.0

pub put_record-requires : goal.put_record-requires
put_record-requires c = (omega arith, rw c.draw_class-above.ensures.at (axioms_room c.loop-k.invariant c.requires.0.0 c.requires.1))

pub loop-k-preserved : goal.loop-k-preserved
loop-k-preserved c =
    let d = c.draw_class-above.ensures in
    axioms_more c.loop-k.invariant c.requires.0.0 c.requires.1 c.loop-k-test.true d.seed d.value (rw d.at at c.put_record.ensures)

pub put_record-requires-2 : goal.put_record-requires-2
put_record-requires-2 c = (omega arith, axioms_room c.loop-k.invariant c.requires.0.0 c.requires.1)

pub returns : goal.returns
returns c = record {
  words = axioms_put c.loop-k.invariant c.requires.0.0 c.requires.1 c.loop-k-test.false c.put_record-2.ensures;
  seed = axioms_seed c.loop-k.invariant c.requires.0.0 c.requires.1 c.loop-k-test.false;
}
