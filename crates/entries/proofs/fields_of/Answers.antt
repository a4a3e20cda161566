use Rattle.entries.proofs.Reading.{constraint_entry, constraint_fields_lem, role_entry, role_fields_lem}
use Rattle.entries.proofs.fields_of.Goals as goal

pub role_of-r-requires : goal.role_of-r-requires
role_of-r-requires c = search role_entry

pub returns-then-e-lt-CONSTRAINT_ENTRIES : goal.returns-then-e-lt-CONSTRAINT_ENTRIES
returns-then-e-lt-CONSTRAINT_ENTRIES c = search role_fields_lem

pub feature_of-f-requires : goal.feature_of-f-requires
feature_of-f-requires c = search constraint_entry

pub lo_of-requires : goal.lo_of-requires
lo_of-requires c = search constraint_entry

pub hi_of-requires : goal.hi_of-requires
hi_of-requires c = search constraint_entry

pub returns : goal.returns
returns c = search constraint_fields_lem
