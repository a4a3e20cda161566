use mathlib.Core.Path.{refl}
use native.Mathlib.Omega.{arith}
use Rattle.closure.proofs.Raising.{heads_none, nexts_none, raised_length, raised_then}
use Rattle.closure.specs.Index.{raised_none}
use Rattle.theory.proofs.Wellformed.{accepted_counts}
use Rattle.closure.proofs.raise_all.Goals as goal

pub returns-then-first_axiom-eq0 : goal.returns-then-first_axiom-eq0
returns-then-first_axiom-eq0 c = raised_none refl

pub index-requires : goal.index-requires
index-requires c = (c.requires.0, heads_none _ 257 0, nexts_none _ 1025)

pub loop-c-init : goal.loop-c-init
loop-c-init c = (raised_none refl, c.index.ensures.0)

pub raise-requires : goal.raise-requires
raise-requires c =
    let v = c.args.v.now in
    let l = c.loop-c.invariant in record {
      accepted = c.requires.0;
      room = omega (arith, c.requires.1, raised_length c.requires.0 c.requires.1 l.0);
      class = omega (arith, c.loop-c-test.true, c.class_count-c-end.ensures, (accepted_counts v c.requires.0).0.1);
      heads = l.1;
      nexts = c.index.ensures.1;
    }

pub loop-c-preserved : goal.loop-c-preserved
loop-c-preserved c = let e = c.raise.ensures in (raised_then c.loop-c.invariant.0 e.raised, e.heads_taken.0)

pub returns-else-first_axiom-eq0-2 : goal.returns-else-first_axiom-eq0-2
returns-else-first_axiom-eq0-2 c = raised_then c.loop-c.invariant.0 c.raise.ensures.raised
