use Rattle.owl.proofs.Passes.{write_ends, write_on, write_passes, write_starts}
use Rattle.owl.proofs.Source.write_axioms.Goals as goal

pub loop-item-init : goal.loop-item-init
loop-item-init c = write_starts c.args.self.now.ready c.args.self.now.begins _ _

pub loop-item-preserved-in-Declares : goal.loop-item-preserved-in-Declares
loop-item-preserved-in-Declares c =
    let n = rw c.in-Statement.is at c.in-Some.ensures in
    write_passes c.loop-item.invariant n _ c.in-Declares.is

pub loop-item-preserved : goal.loop-item-preserved
loop-item-preserved c =
    let n = rw c.in-Statement.is at c.in-Some.ensures in
    write_on c.loop-item.invariant n _ c.in-States.is c.requires c.kind_of.ensures c.first_number.ensures c.unwrap_or-a.ensures
    c.second_number.ensures c.unwrap_or-b.ensures c.put.ensures

pub returns-in-End : goal.returns-in-End
returns-in-End c =
    let n = rw c.in-End.is at c.in-Some.ensures in
    write_ends c.loop-item.invariant n
