use Rattle.exports.proofs.Coding.{coded_filling}
use Rattle.exports.proofs.gimbuka_read_owl.Goals as goal

pub returns : goal.returns
returns c =
    let d = c.read_owl.ensures in
    record { answer = coded_filling d.answer c.filling.ensures; output = d.output }
