-- `is_exact`: the places of the parts, one after the other.
use Rattle.input.proofs.Words.{exact_parts}
use Rattle.input.proofs.is_exact.Goals as goal

pub returns : goal.returns
returns c = exact_parts c.args.words.now _ _ _ _ c.next_part-p.ensures.value c.next_part-q.ensures.value c.next_part.ensures.value
