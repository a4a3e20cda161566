use Rattle.meaning.specs.Model.{facts_of}
use Rattle.satisfaction.proofs.Statements.{asks, asks_range, below_told, disjoint_told}
use Rattle.satisfaction.proofs.is_held.Goals as goal

pub returns-in-Some-Below : goal.returns-in-Some-Below
returns-in-Some-Below c =
    let i = c.requires.interpreted in
    asks c.in-Some-Below.ensures c.in-Some-Below.field-0-is (facts_of c.args.m.now) (below_told i.readable i.classed _ _ c.individual_count.ensures c.do_follow.ensures)

pub returns-in-Some-Disjoint : goal.returns-in-Some-Disjoint
returns-in-Some-Disjoint c =
    let i = c.requires.interpreted in
    asks c.in-Some-Disjoint.ensures c.in-Some-Disjoint.field-0-is (facts_of c.args.m.now) (disjoint_told i.readable i.classed _ _ c.individual_count-in-Some-Disjoint.ensures c.do_follow-in-Some-Disjoint.ensures)

pub returns-in-Some-Range : goal.returns-in-Some-Range
returns-in-Some-Range c = asks_range c.requires c.in-Some-Range.ensures c.in-Some-Range.field-0-is c.is_range.ensures
