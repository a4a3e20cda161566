-- `write_classes`: at class c its record and those of the classes above it are left.
use lib.ListN.{length}
use Rattle.words.specs.Members.{members_from}
use Rattle.writing.proofs.Words.{ClassesLeft}
use Rattle.writing.proofs.write_classes.Given as goal

abbrev pub invariant-loop-c : goal.invariant-loop-c
invariant-loop-c l = ClassesLeft l.s.words l.first l.last l.initial.out l.k l.c.0 l.out

abbrev pub decreases-loop-c : goal.decreases-loop-c
decreases-loop-c l = length (members_from l.s.words l.c.0)
