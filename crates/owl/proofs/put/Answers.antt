use Rattle.owl.proofs.put.Goals as goal

pub returns : goal.returns
returns c = rw (← c.link.ensures) c.put_record.ensures.text
