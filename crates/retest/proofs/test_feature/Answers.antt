use borrow.Author.Rules.{rules}
use Rattle.retest.proofs.Features.{feature_fails, feature_noted, feature_told, feature_whole}
use Rattle.retest.proofs.test_feature.Goals as goal

pub returns-in-Passes : goal.returns-in-Passes
returns-in-Passes c = search (rules, feature_whole)

pub returns-in-Fails : goal.returns-in-Fails
returns-in-Fails c = search (rules, feature_fails)

pub returns-in-Rests : goal.returns-in-Rests
returns-in-Rests c = search (rules, feature_told, feature_noted)
