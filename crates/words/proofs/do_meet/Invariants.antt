use lib.ListN.{length}
use Rattle.words.proofs.Others.{Meeting}
use Rattle.words.specs.Members.{members_from}
use Rattle.words.proofs.do_meet.Given as goal

abbrev pub invariant-loop-x : goal.invariant-loop-x
invariant-loop-x l = Meeting l.words l.others l.x

abbrev pub decreases-loop-x : goal.decreases-loop-x
decreases-loop-x l = length (members_from l.words l.x)
