use Rattle.owl.proofs.Noting.{looks_both, looks_feature, looks_role}
use Rattle.owl.proofs.Source.is_stated_known.Goals as goal

pub returns-in-FunctionalRole : goal.returns-in-FunctionalRole
returns-in-FunctionalRole c =
    let e = c.in-FunctionalRole.is in
    let first = rw e at c.in-Some.ensures in
    rw e (looks_role c.args.self.now.text.now _ _ c.in-FunctionalRole.field-0 first c.insert.ensures)

pub returns-in-FunctionalFeature : goal.returns-in-FunctionalFeature
returns-in-FunctionalFeature c =
    let e = c.in-FunctionalFeature.is in
    let first = rw e at c.in-Some.ensures in
    rw e (looks_feature c.args.self.now.text.now _ _ c.in-FunctionalFeature.field-0 first c.insert-in-FunctionalFeature.ensures)

pub returns-in_default-stated : goal.returns-in_default-stated
returns-in_default-stated c =
    looks_both c.args.self.now.text.now _ _ c.is_some.ensures c.args.stated c.in_default-stated.not-FunctionalRole c.in_default-stated.not-FunctionalFeature
    c.in-Some.ensures c.second_number.ensures
