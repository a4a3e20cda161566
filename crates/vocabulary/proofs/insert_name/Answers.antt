use Rattle.vocabulary.proofs.Names.{name_passed, name_put}
use Rattle.vocabulary.proofs.insert_name.Goals as goal

pub returns-then-axiom_kind-kind : goal.returns-then-axiom_kind-kind
returns-then-axiom_kind-kind c = search name_put

pub returns-else-axiom_kind-kind : goal.returns-else-axiom_kind-kind
returns-else-axiom_kind-kind c = search name_passed
