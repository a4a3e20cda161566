use Rattle.exports.proofs.Coding.{coded, worked}
use Rattle.exports.specs.Codes.{possibility_code}
use Rattle.exports.proofs.gimbuka_possible.Goals as goal

pub returns : goal.returns
returns c =
    let d = c.possible.ensures in
    record { answer = coded d.answer possibility_code c.possibility.ensures; work = worked d.answer _ d.work }
