use Rattle.entries.proofs.Reading.{constraint_entry, constraint_owner, role_entry, role_owner}
use Rattle.entries.proofs.owner_of.Goals as goal

pub parent_of-requires : goal.parent_of-requires
parent_of-requires c = search role_entry

pub returns-then-e-lt-CONSTRAINT_ENTRIES : goal.returns-then-e-lt-CONSTRAINT_ENTRIES
returns-then-e-lt-CONSTRAINT_ENTRIES c = search role_owner

pub holder_of-requires : goal.holder_of-requires
holder_of-requires c = search constraint_entry

pub returns : goal.returns
returns c = search constraint_owner
