-- The cycle of the structural test: a chain tests its conjuncts, a conjunct what is remembered of it, its kind, a role the successors, a
-- successor a child chain, with a level less.
use Prim.Native.Nat.{◌*◌, ◌+◌, ◌-◌}
use mathlib.Core.Path.{◌≡◌}
use lib.ListN.{length}
use Rattle.meaning.specs.Records.{falling, last_of}
use Rattle.std.specs.Prelude.{unwrap_or}
use Rattle.retest.specs.Memory.{Sure}
use Rattle.retest.proofs.Carried.{Walking}
use Rattle.retest.proofs.Conjuncts.{Rest}
use Rattle.retest.proofs.Successors.{Seeking}
use Rattle.policy.proofs.Conjuncts.{Going}
use Rattle.retest.proofs.+test_test_anew_test_carriers_test_conjunct_test_recalled_test_role_test_row_test_still.Given as goal

abbrev pub decreases-test : goal.decreases-test
decreases-test l = 8 * l.left + 7

abbrev pub invariant-test-loop-at : goal.invariant-test-loop-at
invariant-test-loop-at l = (length l.memory ≡ length l.initial.memory) × Sure l.a.q.now l.a.carriers.now l.a.work.now l.a.t l.memory × Going (Rest l.a.q.now l.a.dials.now l.a.work.now l.a.t l.left l.k l.x l.all) l.a.q.now l.at

abbrev pub decreases-test-loop-at : goal.decreases-test-loop-at
decreases-test-loop-at l = falling (last_of 6 l.a.q.now) l.at

abbrev pub decreases-test_anew : goal.decreases-test_anew
decreases-test_anew l = 8 * l.left + 4

abbrev pub decreases-test_carriers : goal.decreases-test_carriers
decreases-test_carriers l = 8 * l.left + 2

abbrev pub invariant-test_carriers-loop-next : goal.invariant-test_carriers-loop-next
invariant-test_carriers-loop-next l = (length l.memory ≡ length l.initial.memory) × Walking l.a.q.now l.a.dials.now l.a.carriers.now l.a.work.now l.a.t l.memory l.left l.k l.x l.r.0 l.all l.next

abbrev pub decreases-test_carriers-loop-next : goal.decreases-test_carriers-loop-next
decreases-test_carriers-loop-next l = falling l.a.t.individuals (unwrap_or l.next 0)

abbrev pub decreases-test_conjunct : goal.decreases-test_conjunct
decreases-test_conjunct l = 8 * l.left + 6

abbrev pub decreases-test_recalled : goal.decreases-test_recalled
decreases-test_recalled l = 8 * l.left + 5

abbrev pub decreases-test_role : goal.decreases-test_role
decreases-test_role l = 8 * l.left + 3

abbrev pub decreases-test_row : goal.decreases-test_row
decreases-test_row l = 8 * l.left + 1

abbrev pub decreases-test_still : goal.decreases-test_still
decreases-test_still l = 8 * l.left + 2

abbrev pub invariant-test_still-loop-j : goal.invariant-test_still-loop-j
invariant-test_still-loop-j l = (length l.memory ≡ length l.initial.memory) × Seeking l.a.q.now l.a.dials.now l.a.carriers.now l.a.work.now l.a.t l.memory l.left l.k l.x l.r.0 l.all l.j

abbrev pub decreases-test_still-loop-j : goal.decreases-test_still-loop-j
decreases-test_still-loop-j l = l.n - l.j
