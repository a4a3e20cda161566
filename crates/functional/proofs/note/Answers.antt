use Rattle.functional.proofs.note.Goals as goal

pub returns : goal.returns
returns c = record { roles = c.insert_name.ensures; features = c.insert_name-2.ensures }
