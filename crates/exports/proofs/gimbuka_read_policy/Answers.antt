use Rattle.exports.proofs.Coding.{coded}
use Rattle.exports.specs.Codes.{reading_code}
use Rattle.exports.proofs.gimbuka_read_policy.Goals as goal

pub returns : goal.returns
returns c = coded c.read_policy.ensures.answer reading_code c.reading.ensures
