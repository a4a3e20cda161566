-- `write_classes`: at class c its fact and those of the classes above it are left.
use lib.ListN.{length}
use Rattle.countermodel.proofs.Members.{members_left}
use Rattle.countermodel.specs.Written.{facts}
use Rattle.records.proofs.Writing.{Left}
use Rattle.countermodel.specs.Facts.{member_facts}
use Rattle.countermodel.proofs.write_classes.Given as goal

abbrev pub invariant-loop-c : goal.invariant-loop-c
invariant-loop-c l = Left facts l.last l.k (member_facts l.work l.i) l.initial.out l.at (members_left l.work l.i l.c.0) l.out

abbrev pub decreases-loop-c : goal.decreases-loop-c
decreases-loop-c l = length (members_left l.work l.i l.c.0)
