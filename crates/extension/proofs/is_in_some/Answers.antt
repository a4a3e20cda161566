use native.Mathlib.Omega.{arith}
use Rattle.extension.proofs.Policies.{seeking_ends, seeking_falls, seeking_found, seeking_inside, seeking_on, seeking_starts, sized}
use Rattle.extension.proofs.is_in_some.Goals as goal

pub loop-k-init : goal.loop-k-init
loop-k-init c = seeking_starts c.requires.0 c.first_term-k.ensures

pub does_hold-requires : goal.does_hold-requires
does_hold-requires c = (sized c.requires.0, (omega arith, omega arith), seeking_inside c.loop-k.invariant c.loop-k-test.true c.child_of-conjuncts.ensures, c.requires.1.interpreted.long)

pub returns-then-does_hold : goal.returns-then-does_hold
returns-then-does_hold c = seeking_found c.loop-k.invariant c.loop-k-test.true c.child_of-conjuncts.ensures c.requires.1 c.requires.2 c.does_hold.ensures c.if-does_hold.true

pub loop-k-smaller : goal.loop-k-smaller
loop-k-smaller c = seeking_falls c.loop-k.invariant c.loop-k-test.true c.next_of-k.ensures

pub loop-k-preserved : goal.loop-k-preserved
loop-k-preserved c = seeking_on c.loop-k.invariant c.loop-k-test.true c.child_of-conjuncts.ensures c.requires.1 c.requires.2 c.does_hold.ensures c.if-does_hold.false c.next_of-k.ensures

pub returns : goal.returns
returns c = seeking_ends c.loop-k.invariant c.loop-k-test.false
