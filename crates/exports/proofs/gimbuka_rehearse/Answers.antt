use Rattle.exports.proofs.Coding.{coded_filling}
use Rattle.exports.proofs.gimbuka_rehearse.Goals as goal

pub returns : goal.returns
returns c =
    let d = c.rehearse.ensures in
    record { answer = coded_filling d.answer c.filling.ensures; output = d.output }
