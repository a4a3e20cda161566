use Rattle.vocabulary.proofs.is_role.Goals as goal

pub returns : goal.returns
returns c = cc
