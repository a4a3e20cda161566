-- `number`: at each byte the value is the number that the digits before it are.
use Rattle.rehearse.proofs.Numbers.{DigitsLeft}
use Rattle.rehearse.proofs.number.Given as goal

abbrev pub invariant-loop-b : goal.invariant-loop-b
invariant-loop-b l = DigitsLeft l.text l.value l.b-index
