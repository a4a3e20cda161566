use Rattle.exports.proofs.Coding.{coded_comparison, worked}
use Rattle.exports.proofs.gimbuka_equality.Goals as goal

pub returns : goal.returns
returns c =
    let d = c.equality.ensures in
    record { answer = coded_comparison d.answer c.comparison.ensures; work = worked d.answer _ d.work; output = d.output }
