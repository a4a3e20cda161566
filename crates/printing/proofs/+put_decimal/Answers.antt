use borrow.Author.Rules.{rules}
use native.Mathlib.Omega.{arith}
use Rattle.printing.proofs.Decimal.{decimal_length, decimal_some, put_digits, put_last}
use Rattle.printing.proofs.+put_decimal.Goals as goal

pub put_byte-requires : goal.put_byte-requires
put_byte-requires t c = omega (arith, decimal_some c.args.n)

pub returns-then-n-lt10 : goal.returns-then-n-lt10
returns-then-n-lt10 t c = put_last c.if-n-lt10.true c.digit.ensures c.put_byte.ensures

pub put_decimal-next-requires : goal.put_decimal-next-requires
put_decimal-next-requires t c = (search rules, omega (arith, decimal_length c.args.n c.if-n-lt10.false))

pub put_byte-requires-2 : goal.put_byte-requires-2
put_byte-requires-2 t c = omega (arith, decimal_length c.args.n c.if-n-lt10.false)

pub returns : goal.returns
returns t c = put_digits c.if-n-lt10.false c.put_decimal-next.ensures c.digit-2.ensures
    c.put_byte-2.ensures
