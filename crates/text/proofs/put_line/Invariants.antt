-- `put_line`: the name and the numbers so far are put.
use Rattle.text.proofs.Lines.{Lined}
use Rattle.text.proofs.put_line.Given as goal

abbrev pub invariant-loop-n : goal.invariant-loop-n
invariant-loop-n l = Lined l.fn.text l.at l.name l.numbers l.n-index l.text l.next
