-- `put_vocabulary`: the count, the header, the records.
use Rattle.rehearsal.proofs.Parts.{vocabulary_put}
use Rattle.rehearsal.proofs.put_vocabulary.Goals as goal

pub returns : goal.returns
returns c = vocabulary_put c.requires.0 c.requires.1 c.put_word.ensures c.put_record-at.ensures c.put_axioms.ensures
