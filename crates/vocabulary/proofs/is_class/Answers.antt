use Rattle.vocabulary.proofs.is_class.Goals as goal

pub returns : goal.returns
returns c = cc
