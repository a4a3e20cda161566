use Rattle.vocabulary.proofs.is_feature.Goals as goal

pub returns : goal.returns
returns c = cc
