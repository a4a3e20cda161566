use borrow.Author.Rules.{rules}
use Rattle.subsumption.proofs.Conjuncts.{test_asked, test_ends, test_fails, test_on, test_starts}
use Rattle.subsumption.proofs.Successors.{walk_ends, walk_falls, walk_found, walk_other, walk_past, walk_starts}
use Rattle.policy.proofs.Conjuncts.{going_falls}
use Rattle.subsumption.proofs.+test_test_conjunct_test_successors.Goals as goal
use Rattle.subsumption.proofs.+test_test_conjunct_test_successors.Goals.{test_successors-else-role-r-via-else-role-r, test_successors-else-role-r-via-then-role-r+else-test}

pub test-loop-at-init : goal.test-loop-at-init
test-loop-at-init t c = search test_starts

pub test-test_conjunct-requires : goal.test-test_conjunct-requires
test-test_conjunct-requires t c = search (rules, test_asked)

pub test-returns-then-not-test_conjunct : goal.test-returns-then-not-test_conjunct
test-returns-then-not-test_conjunct t c = search (rules, test_fails)

pub test-loop-at-smaller : goal.test-loop-at-smaller
test-loop-at-smaller t c = search going_falls

pub test-loop-at-preserved : goal.test-loop-at-preserved
test-loop-at-preserved t c = search test_on

pub test-returns : goal.test-returns
test-returns t c = search (rules, test_ends)

pub test_successors-loop-j-init : goal.test_successors-loop-j-init
test_successors-loop-j-init t c = search walk_starts

pub test_successors-returns-then-test : goal.test_successors-returns-then-test
test_successors-returns-then-test t c = search (rules, walk_found)

pub test_successors-loop-j-smaller : goal.test_successors-loop-j-smaller
test_successors-loop-j-smaller t c = search walk_falls

pub test_successors-loop-j-preserved : goal.test_successors-loop-j-preserved
test_successors-loop-j-preserved t c = elim c.else-role-r.branch [ test_successors-else-role-r-via-then-role-r+else-test w ↦ search walk_past | test_successors-else-role-r-via-else-role-r w ↦ search walk_other ]

pub test_successors-returns : goal.test_successors-returns
test_successors-returns t c = search (rules, walk_ends)
