-- `put_number`: a space and at most ten digits.
use borrow.Author.Rules.{rules}
use native.Mathlib.Omega.{arith}
use Rattle.printing.proofs.Decimal.{decimal_short}
use Rattle.frames.proofs.Puts.{put_then}
use Rattle.text.proofs.put_number.Goals as goal

pub put_decimal-requires : goal.put_decimal-requires
put_decimal-requires c = omega (arith, decimal_short c.args.n (search rules))

pub returns : goal.returns
returns c = record { put = put_then c.put_byte-next.ensures c.put_decimal.ensures; upper_bound = omega (arith, decimal_short c.args.n (search rules)) }
