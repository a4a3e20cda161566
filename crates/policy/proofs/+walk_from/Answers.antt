use mathlib.Core.Path.{refl}
use borrow.Author.Rules.{rules}
use Rattle.meaning.specs.Refusals.{policy_number}
use Rattle.policy.proofs.Walking.{child_inside, level, level_falls, next_falls, walk_ends, walk_faults, walk_on, walk_past, walk_starts, walk_stops}
use Rattle.theory.proofs.Numbers.{kept, policy_numbered}
use Rattle.policy.proofs.+walk_from.Goals as goal

pub loop-k-init : goal.loop-k-init
loop-k-init t c = (search walk_starts, search rules)

pub returns-in_err-check_record : goal.returns-in_err-check_record
returns-in_err-check_record t c =
    let e = c.in_err-check_record in
    rw (kept policy_number c.from_residual.result c.from_residual.ensures.1)
    (walk_faults c.loop-k.invariant.0 c.loop-k-test.true e.ensures (search rules) (policy_numbered e.field-0.0))

pub loop-k-smaller-then-child-eq0 : goal.loop-k-smaller-then-child-eq0
loop-k-smaller-then-child-eq0 t c = next_falls c.loop-k.invariant.0 c.loop-k-test.true c.in_ok-check_record.ensures refl c.next_of-k.ensures

pub loop-k-preserved-then-child-eq0 : goal.loop-k-preserved-then-child-eq0
loop-k-preserved-then-child-eq0 t c = (
  walk_past c.loop-k.invariant.0 c.loop-k-test.true c.in_ok-check_record.ensures (search rules) refl (search rules)
      c.child_of-child.ensures (search rules) c.insert.ensures c.next_of-k.ensures,
  search rules,
)

pub overflow_sub-left : goal.overflow_sub-left
overflow_sub-left t c = level c.loop-k.invariant.0 c.loop-k-test.true c.in_ok-check_record.ensures refl

pub walk_from-requires : goal.walk_from-requires
walk_from-requires t c =
    let g = c.loop-k.invariant.0 in
    let n = c.loop-k-test.true in
    let e = c.in_ok-check_record.ensures in (
      level_falls g n e refl (search rules),
      (search rules, search rules, child_inside g n e refl c.child_of-child.ensures, search rules),
    )

pub returns-in_err-walk_from : goal.returns-in_err-walk_from
returns-in_err-walk_from t c =
    let e = c.in_err-walk_from in
    rw (kept policy_number c.from_residual-in_err-walk_from.result c.from_residual-in_err-walk_from.ensures.1)
    (walk_stops c.loop-k.invariant.0 c.loop-k-test.true c.in_ok-check_record.ensures (search rules) refl (search rules)
    c.child_of-child.ensures c.insert.ensures e.ensures (policy_numbered e.field-0.0))

pub loop-k-smaller : goal.loop-k-smaller
loop-k-smaller t c = next_falls c.loop-k.invariant.0 c.loop-k-test.true c.in_ok-check_record.ensures refl c.next_of-k.ensures

pub loop-k-preserved : goal.loop-k-preserved
loop-k-preserved t c = (
  walk_on c.loop-k.invariant.0 c.loop-k-test.true c.in_ok-check_record.ensures (search rules) refl (search rules)
      c.child_of-child.ensures c.insert.ensures c.in_ok-walk_from.ensures refl c.next_of-k.ensures,
  search rules,
)

pub returns : goal.returns
returns t c = search walk_ends
