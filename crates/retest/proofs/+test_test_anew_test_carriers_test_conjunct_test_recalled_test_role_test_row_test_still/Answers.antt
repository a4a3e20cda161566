use borrow.Author.Rules.{rules}
use mathlib.Core.Path.{◌≡◌, refl}
use Rattle.std.specs.Prelude.{Some}
use Rattle.retest.specs.declared.State.TheVariants.{Rests}
use native.Mathlib.Omega.{arith}
use Rattle.retest.proofs.Carried.{walk_ends, walk_falls, walk_found, walk_on, walk_row, walk_starts}
use Rattle.retest.proofs.Conjuncts.{class_told, impossible_told, individual_few, kind_other, recalled_fails, recalled_noted, recalled_passes, recalled_pending}
use Rattle.retest.proofs.Conjuncts.{role_below, role_carried, role_none, role_noted, role_open, role_still}
use Rattle.retest.proofs.Conjuncts.{test_asked, test_ends, test_fails, test_on, test_starts}
use Rattle.retest.proofs.Successors.{row_other, row_own, still_ends, still_falls, still_found, still_listed, still_on, still_row, still_starts}
use Rattle.policy.proofs.Conjuncts.{going_falls}
use Rattle.retest.proofs.+test_test_anew_test_carriers_test_conjunct_test_recalled_test_role_test_row_test_still.Goals as goal

pub test-loop-at-init : goal.test-loop-at-init
test-loop-at-init t c = (search rules, search rules, search test_starts)

pub test-test_conjunct-one-requires : goal.test-test_conjunct-one-requires
test-test_conjunct-one-requires t c = search (rules, test_asked)

pub test-returns-then-not-one : goal.test-returns-then-not-one
test-returns-then-not-one t c = search (rules, test_fails)

pub test-loop-at-smaller : goal.test-loop-at-smaller
test-loop-at-smaller t c = search going_falls

pub test-loop-at-preserved : goal.test-loop-at-preserved
test-loop-at-preserved t c = (search rules, search rules, search test_on)

pub test-returns : goal.test-returns
test-returns t c = search (rules, test_ends)

pub test_carriers-loop-next-init : goal.test_carriers-loop-next-init
test_carriers-loop-next-init t c = (search rules, search walk_starts)

pub test_carriers-test_row-one-requires : goal.test_carriers-test_row-one-requires
test_carriers-test_row-one-requires t c = search (rules, walk_row)

pub test_carriers-returns-then-one : goal.test_carriers-returns-then-one
test_carriers-returns-then-one t c = search walk_found

pub test_carriers-loop-next-smaller : goal.test_carriers-loop-next-smaller
test_carriers-loop-next-smaller t c = search walk_falls

pub test_carriers-loop-next-preserved : goal.test_carriers-loop-next-preserved
test_carriers-loop-next-preserved t c = (search rules, search walk_on)

pub test_carriers-returns : goal.test_carriers-returns
test_carriers-returns t c = search (rules, walk_ends)

pub test_conjunct-test_recalled-requires : goal.test_conjunct-test_recalled-requires
test_conjunct-test_recalled-requires t c = search (rules, kind_other)

pub test_conjunct-returns-in-1 : goal.test_conjunct-returns-in-1
test_conjunct-returns-in-1 t c = search (rules, class_told)

pub test_conjunct-returns-in-2 : goal.test_conjunct-returns-in-2
test_conjunct-returns-in-2 t c = search (rules, impossible_told)

pub test_recalled-returns-in-Some-Passes : goal.test_recalled-returns-in-Some-Passes
test_recalled-returns-in-Some-Passes t c = search (rules, recalled_passes)

pub test_recalled-returns-in-Some-Fails : goal.test_recalled-returns-in-Some-Fails
test_recalled-returns-in-Some-Fails t c = search (rules, recalled_fails)

pub test_recalled-test_anew-one-requires : goal.test_recalled-test_anew-one-requires
test_recalled-test_anew-one-requires t c = search (rules, recalled_pending)

pub test_recalled-remember-requires : goal.test_recalled-remember-requires
test_recalled-remember-requires t c = search (rules, individual_few)

pub test_recalled-returns-then-one-eq0 : goal.test_recalled-returns-then-one-eq0
test_recalled-returns-then-one-eq0 t c = let p = c.requires in recalled_noted p.asked c.slot_of-slot.ensures c.recall-state.ensures c.test_anew-one.ensures c.if-one-eq0.true c.settled.ensures c.remember.ensures

pub test_role-test_carriers-requires : goal.test_role-test_carriers-requires
test_role-test_carriers-requires t c = search (rules, role_below)

pub test_role-returns-in-Some-Rests : goal.test_role-returns-in-Some-Rests
test_role-returns-in-Some-Rests t c = let e : c.args.state ≡ Some Rests = search rules in search (rules, role_open)

pub test_role-test_still-still-requires : goal.test_role-test_still-still-requires
test_role-test_still-still-requires t c = search (rules, role_below)

pub test_role-returns-then-still : goal.test_role-returns-then-still
test_role-returns-then-still t c = search (rules, role_still)

pub test_role-remember_open-requires : goal.test_role-remember_open-requires
test_role-remember_open-requires t c = search (rules, individual_few)

pub test_role-test_carriers-one-requires : goal.test_role-test_carriers-one-requires
test_role-test_carriers-one-requires t c = let p = c.requires in (omega arith, role_below p.pending p.k_value c.name_of.ensures c.child_of-child.ensures (role_noted p.pending p.k_value c.name_of.ensures c.child_of-child.ensures c.test_still-still.ensures c.if-still.false c.remember_open.ensures))

pub test_role-returns-then-one : goal.test_role-returns-then-one
test_role-returns-then-one t c = let p = c.requires in role_carried p.pending p.k_value c.name_of.ensures c.child_of-child.ensures c.test_carriers-one.ensures c.if-one.true

pub test_role-returns : goal.test_role-returns
test_role-returns t c = let p = c.requires in role_none p.pending p.k_value c.name_of.ensures c.child_of-child.ensures c.test_still-still.ensures c.if-still.false c.test_carriers-one.ensures c.if-one.false (search rules) (search rules)

pub test_row-returns-then-role-r : goal.test_row-returns-then-role-r
test_row-returns-then-role-r t c = search (rules, row_other)

pub test_row-returns : goal.test_row-returns
test_row-returns t c = search (rules, row_own)

pub test_still-loop-j-init : goal.test_still-loop-j-init
test_still-loop-j-init t c = (search rules, search still_starts)

pub test_still-loop-j-smaller-then-slot_of-ne0 : goal.test_still-loop-j-smaller-then-slot_of-ne0
test_still-loop-j-smaller-then-slot_of-ne0 t c = search still_falls

pub test_still-loop-j-preserved-then-slot_of-ne0 : goal.test_still-loop-j-preserved-then-slot_of-ne0
test_still-loop-j-preserved-then-slot_of-ne0 t c = (search rules, search still_listed)

pub test_still-test_row-one-requires : goal.test_still-test_row-one-requires
test_still-test_row-one-requires t c = (omega arith, still_row c.place-n.ensures c.loop-j.invariant.1 c.loop-j-test.true refl)

pub test_still-returns-then-one : goal.test_still-returns-then-one
test_still-returns-then-one t c = search still_found

pub test_still-loop-j-smaller : goal.test_still-loop-j-smaller
test_still-loop-j-smaller t c = search still_falls

pub test_still-loop-j-preserved : goal.test_still-loop-j-preserved
test_still-loop-j-preserved t c = (search rules, search still_on)

pub test_still-returns : goal.test_still-returns
test_still-returns t c = search (rules, still_ends)
