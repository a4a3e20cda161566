use Rattle.owl.proofs.Passes.{knowing_ends, knowing_on, knowing_starts}
use Rattle.owl.proofs.Source.are_known.Goals as goal

pub loop-item-init : goal.loop-item-init
loop-item-init c = knowing_starts c.args.self.now.ready c.args.self.now.begins _ _

pub loop-item-preserved : goal.loop-item-preserved
loop-item-preserved c =
    let n = rw c.in-Statement.is at c.in-Some.ensures in
    knowing_on c.loop-item.invariant n c.is_known.ensures c.if-not-is_known.false

pub returns-in-End-clause-noted : goal.returns-in-End-clause-noted
returns-in-End-clause-noted c =
    let n = rw c.in-End.is at c.in-Some.ensures in
    (knowing_ends c.loop-item.invariant n).1
