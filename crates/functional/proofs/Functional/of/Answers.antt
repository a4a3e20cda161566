use Rattle.functional.proofs.FunctionalNames.{functional_names}
use Rattle.functional.proofs.Functional.of.Goals as goal

pub returns : goal.returns
returns c = let many = c.insert_many.ensures in
    functional_names c.args.v.now c.requires c.role_count.ensures c.feature_count.ensures many.roles many.features
    c.others.ensures c.others-2.ensures
