use Rattle.entries.proofs.Reading.{constraint_classes, role_classes, role_entry}
use Rattle.entries.proofs.classes_at.Goals as goal

pub classes_of-requires : goal.classes_of-requires
classes_of-requires c = search role_entry

pub returns-then-e-lt-CONSTRAINT_ENTRIES : goal.returns-then-e-lt-CONSTRAINT_ENTRIES
returns-then-e-lt-CONSTRAINT_ENTRIES c = search role_classes

pub returns : goal.returns
returns c = search constraint_classes
