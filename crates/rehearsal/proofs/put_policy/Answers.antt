-- `put_policy`: the count, the header, the terms.
use Rattle.rehearsal.proofs.Parts.{policy_put}
use Rattle.rehearsal.proofs.put_policy.Goals as goal

pub returns : goal.returns
returns c = policy_put c.requires c.put_word.ensures c.put_record-at.ensures c.put_terms.ensures
