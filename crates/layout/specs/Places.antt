-- Where each table of the work slice stands: each after room for the most entries of the one before.
use Rattle.std.specs.Prelude.{◌*◌, ◌+◌, ◌-◌, ℕ}
use Rattle.frames.specs.Frames.{Span}
use Rattle.meaning.specs.Limits.{most_axioms, most_classes, most_records, most_roles}
use Rattle.words.specs.Rows.{class_words}

-- rows of sets of classes, counted from 1 as classes are, and after room for the most classes those of the roles
abbrev pub row_place : ℕ → ℕ
row_place i = (i - 1) * class_words

abbrev pub role_row : ℕ → ℕ
role_row r = most_classes + r

-- the number of the pairs of disjoint classes, then the pairs, counted from 0: a vocabulary has no more of them than records
abbrev pub pairs_at : ℕ
pairs_at = role_row most_roles * class_words

abbrev pub most_pairs : ℕ
most_pairs = most_axioms

abbrev pub pair_place : ℕ → ℕ
pair_place i = pairs_at + 1 + 2 * i

abbrev pub pairs_end : ℕ
pairs_end = pair_place most_pairs

-- records of roles that are still to be followed, a word each
abbrev pub pending_at : ℕ
pending_at = pairs_end

-- individuals, the row of individual n + 1 at n: parent, role, set of classes
abbrev pub individuals_at : ℕ
individuals_at = pending_at + most_records

abbrev pub individual_width : ℕ
individual_width = 2 + class_words

abbrev pub individual_place : ℕ → ℕ
individual_place n = individuals_at + individual_width * n

-- constraints, counted from 0: individual, feature, lo, hi, and the ends of a piece
abbrev pub constraints_at : ℕ
constraints_at = individual_place most_records

abbrev pub constraint_place : ℕ → ℕ
constraint_place m = constraints_at + 6 * m

abbrev pub tables_end : ℕ
tables_end = constraint_place most_records

-- the places that working on a term changes: what is prepared stands before them
abbrev pub InTables : ℕ → Type 0
InTables = Span pending_at tables_end
