use borrow.Author.Rules.{rules}
use native.Mathlib.Omega.{arith}
use Rattle.odometer.proofs.Counts.{counting_ends, counting_fits, counting_on}
use Rattle.odometer.proofs.count_pieces.Goals as goal

pub overflow_cast-counts : goal.overflow_cast-counts
overflow_cast-counts c =
    let r = counting_fits c.requires c.loop-d-test.true c.place-m.ensures
    c.feature_of.ensures c.lo_of.ensures c.hi_of.ensures c.count.ensures.value in
    omega arith

pub loop-d-preserved : goal.loop-d-preserved
loop-d-preserved c = (
  search rules,
  counting_on c.requires c.loop-d-test.true c.place-m.ensures
      c.feature_of.ensures c.lo_of.ensures c.hi_of.ensures c.count.ensures.value c.loop-d.invariant.1,
)

pub returns : goal.returns
returns c = search (rules, counting_ends)
