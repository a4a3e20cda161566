use Rattle.vocabulary.proofs.Laws.{header_classes, header_features, header_first, header_roles}
use Rattle.vocabulary.proofs.is_headed.Goals as goal

pub returns-then-feature_count-le-MOST_FEATURES : goal.returns-then-feature_count-le-MOST_FEATURES
returns-then-feature_count-le-MOST_FEATURES c = search header_first

pub returns-else-feature_count-le-MOST_FEATURES : goal.returns-else-feature_count-le-MOST_FEATURES
returns-else-feature_count-le-MOST_FEATURES c = search header_features

pub returns-else-role_count-le-MOST_ROLES : goal.returns-else-role_count-le-MOST_ROLES
returns-else-role_count-le-MOST_ROLES c = search header_roles

pub returns-else-is_name : goal.returns-else-is_name
returns-else-is_name c = search header_classes
