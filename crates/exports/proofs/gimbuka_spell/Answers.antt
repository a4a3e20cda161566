use Rattle.exports.proofs.Coding.{coded_filling, worked}
use Rattle.exports.proofs.gimbuka_spell.Goals as goal

pub returns : goal.returns
returns c =
    let d = c.spell.ensures in
    record { answer = coded_filling d.answer c.filling.ensures; work = worked d.answer _ d.work; output = d.output }
