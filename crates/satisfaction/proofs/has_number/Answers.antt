use Rattle.meaning.specs.Vocabulary.{vocabulary_of}
use Rattle.satisfaction.proofs.Holding.{number_feature, number_role}
use Rattle.satisfaction.proofs.has_number.Goals as goal

pub returns-then-u-le-MOST_ROLES : goal.returns-then-u-le-MOST_ROLES
returns-then-u-le-MOST_ROLES c = λ v h. number_role (vocabulary_of v) c.if-u-le-MOST_ROLES.true (c.has_role.ensures.functional v h)

pub returns : goal.returns
returns c = λ v h. number_feature (vocabulary_of v) c.if-u-le-MOST_ROLES.false (c.has_feature.ensures.functional v h)
