use native.Mathlib.Omega.{arith}
use Rattle.writing.proofs.size.Goals as goal

pub returns : goal.returns
returns c = λ ds. omega (arith, c.place.ensures, c.count_records.ensures ds)
