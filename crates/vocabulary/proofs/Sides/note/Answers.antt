use Rattle.vocabulary.proofs.Sides.note.Goals as goal

pub returns : goal.returns
returns c = record {
  functional_roles = c.insert_name.ensures;
  functional_features = c.insert_name-2.ensures;
  many_roles = c.insert_name-3.ensures;
  many_features = c.insert_name-4.ensures;
}
