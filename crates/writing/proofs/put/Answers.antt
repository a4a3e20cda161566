use Rattle.writing.proofs.put.Goals as goal

pub returns : goal.returns
returns c = rw (← c.place.ensures) c.put_record.ensures.text
