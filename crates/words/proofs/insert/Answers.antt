-- `insert`: 0 and a number past the words change nothing; any other sets a bit of its word.
use Rattle.words.proofs.Steps.{insert_bit, insert_past, insert_zero}
use Rattle.words.proofs.insert.Goals as goal

pub returns-then-x-eq0 : goal.returns-then-x-eq0
returns-then-x-eq0 c = insert_zero c.args.words.now c.args.x c.if-x-eq0.true

pub returns-then-words-at : goal.returns-then-words-at
returns-then-words-at c =
    let a = c.args in
    let at = c.place-at in
    insert_past a.words.now a.x at.result c.if-x-eq0.false at.ensures c.if-words-at.true

pub returns : goal.returns
returns c =
    let a = c.args in
    let at = c.place-at in
    insert_bit a.words.now a.x at.result c.if-x-eq0.false at.ensures
