-- `put_decimal`: the tens and above are a smaller number, and its digits stand before the last.
use Rattle.printing.proofs.+put_decimal.Given as goal

abbrev pub decreases-put_decimal : goal.decreases-put_decimal
decreases-put_decimal l = l.n
