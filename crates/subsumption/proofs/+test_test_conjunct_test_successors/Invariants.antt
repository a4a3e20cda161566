-- The cycle of the structural test: a chain tests its conjuncts, a conjunct the successors, a successor a child chain, with a level less.
use Prim.Native.Nat.{◌*◌, ◌+◌, ◌-◌}
use Rattle.meaning.specs.Records.{falling, last_of}
use Rattle.subsumption.proofs.Conjuncts.{Rest}
use Rattle.subsumption.proofs.Successors.{Seeking}
use Rattle.policy.proofs.Conjuncts.{Going}
use Rattle.subsumption.proofs.+test_test_conjunct_test_successors.Given as goal

abbrev pub decreases-test : goal.decreases-test
decreases-test l = 3 * l.left + 2

abbrev pub invariant-test-loop-at : goal.invariant-test-loop-at
invariant-test-loop-at l = Going (Rest l.q l.work l.t l.left l.k l.x) l.q l.at

abbrev pub decreases-test-loop-at : goal.decreases-test-loop-at
decreases-test-loop-at l = falling (last_of 6 l.q) l.at

abbrev pub decreases-test_conjunct : goal.decreases-test_conjunct
decreases-test_conjunct l = 3 * l.left + 1

abbrev pub decreases-test_successors : goal.decreases-test_successors
decreases-test_successors l = 3 * l.left

abbrev pub invariant-test_successors-loop-j : goal.invariant-test_successors-loop-j
invariant-test_successors-loop-j l = Seeking l.q l.work l.t l.k l.x l.r.0 l.j

abbrev pub decreases-test_successors-loop-j : goal.decreases-test_successors-loop-j
decreases-test_successors-loop-j l = l.n - l.j
