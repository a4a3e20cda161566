use mathlib.Core.Path.{◌∙◌, ap}
use lib.ListN.{length}
use native.Mathlib.Omega.{arith}
use borrow.Author.Rules.{rules}
use Rattle.normal_form.proofs.Laws.{placing_apart, placing_entry, placing_here, placing_last, placing_on, placing_starts}
use Rattle.normal_form.proofs.add_interval.Goals as goal
use Rattle.normal_form.proofs.add_interval.Goals.{else-one-via-else-one, else-one-via-then-one+else-feature_of-f}

pub loop-i-init : goal.loop-i-init
loop-i-init c = placing_starts c.requires.0

pub feature_of-requires : goal.feature_of-requires
feature_of-requires c = placing_entry c.requires.1.0 c.loop-i.invariant (omega arith) c.requires.1

pub lo_of-requires : goal.lo_of-requires
lo_of-requires c = placing_entry c.requires.1.0 c.loop-i.invariant (omega arith) c.requires.1

pub hi_of-requires : goal.hi_of-requires
hi_of-requires c = placing_entry c.requires.1.0 c.loop-i.invariant (omega arith) c.requires.1

pub put_constraint-requires : goal.put_constraint-requires
put_constraint-requires c = placing_entry c.requires.1.0 c.loop-i.invariant (omega arith) c.requires.1

pub returns-then-feature_of-f : goal.returns-then-feature_of-f
returns-then-feature_of-f c =
    placing_here c.requires.1.0 c.loop-i.invariant (omega arith) c.feature_of.ensures c.if-one.true c.if-feature_of-f.true
    (search rules) (search rules) c.lo_of.ensures c.hi_of.ensures c.put_constraint.ensures

pub loop-i-preserved : goal.loop-i-preserved
loop-i-preserved c =
    let x = c.loop-i.invariant in
    elim c.else-one.branch [
      | else-one-via-then-one+else-feature_of-f w ↦ placing_on c.requires.1.0 x c.loop-i-test.true w.feature_of.ensures w.if-feature_of-f.false
      | else-one-via-else-one w ↦ placing_apart c.requires.1.0 x c.loop-i-test.true w.if-one.false
    ]

pub put_constraint-requires-2 : goal.put_constraint-requires-2
put_constraint-requires-2 c = placing_entry c.requires.1.0 c.loop-i.invariant (omega arith) c.requires.1

pub shape_of-work : goal.shape_of-work
shape_of-work c = c.put_constraint-2.ensures.only.size ∙ ap length c.loop-i.invariant.same

pub returns : goal.returns
returns c = placing_last c.requires.1.0 c.loop-i.invariant (omega arith) c.put_constraint-2.ensures
