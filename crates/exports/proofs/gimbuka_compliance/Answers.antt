use Rattle.exports.proofs.Coding.{coded_verdict, worked}
use Rattle.exports.proofs.gimbuka_compliance.Goals as goal

pub returns : goal.returns
returns c =
    let d = c.compliance.ensures in
    record { answer = coded_verdict d.answer c.verdict.ensures; work = worked d.answer _ d.work; output = d.output }
