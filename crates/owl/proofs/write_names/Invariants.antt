use lib.ListN.{length}
use Rattle.owl.specs.Passes.{naming}
use Rattle.records.proofs.Writing.{Left}
use Rattle.words.specs.Members.{members, members_from}
use Rattle.owl.proofs.write_names.Given as goal

abbrev pub invariant-loop-x : goal.invariant-loop-x
invariant-loop-x l = Left (naming l.kind) l.last l.k (members l.names) l.initial.out l.at (members_from l.names l.x) l.out

abbrev pub decreases-loop-x : goal.decreases-loop-x
decreases-loop-x l = length (members_from l.names l.x)
