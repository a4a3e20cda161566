use Rattle.exports.proofs.Coding.{coded, worked}
use Rattle.exports.specs.Codes.{check_code}
use Rattle.exports.proofs.gimbuka_model_check.Goals as goal

pub returns : goal.returns
returns c =
    let d = c.model_check.ensures in
    record { answer = coded d.answer check_code c.checked.ensures; work = worked d.answer _ d.work }
