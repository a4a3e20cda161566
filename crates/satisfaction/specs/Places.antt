-- Where the model check keeps its tables in the work slice, one after another; src/lib.rt has the map.
use Rattle.std.specs.Prelude.{◌*◌, ◌+◌, ◌-◌, ◌/◌, suc, ℕ, List}
use Rattle.frames.specs.Rows.{put_at, row_at}
use Rattle.meaning.specs.Limits.{most_features, most_individuals, most_records, most_roles}
use Rattle.words.specs.Rows.{class_words}
use Rattle.words.specs.Sets.{including}

-- a set of classes for each individual, from 1 on
abbrev pub class_place : ℕ → ℕ
class_place i = (i - 1) * class_words

abbrev pub classes_of : List ℕ → ℕ → List ℕ
classes_of w i = row_at class_words w (class_place i)

abbrev pub classes_end : ℕ
classes_end = most_individuals * class_words

-- a set of classes for each role, from 1 on
abbrev pub ranges_at : ℕ
ranges_at = classes_end

abbrev pub range_place : ℕ → ℕ
range_place r = ranges_at + (r - 1) * class_words

abbrev pub ranges_of : List ℕ → ℕ → List ℕ
ranges_of w r = row_at class_words w (range_place r)

abbrev pub range_words : ℕ
range_words = most_roles * class_words

abbrev pub ranges_end : ℕ
ranges_end = ranges_at + range_words

-- the roles and features with which an individual has two values, in one series
abbrev pub series_count : ℕ
series_count = most_roles + most_features

abbrev pub clash_words : ℕ
clash_words = series_count / 32

abbrev pub clashes_at : ℕ
clashes_at = ranges_end

abbrev pub clashes_of : List ℕ → List ℕ
clashes_of w = row_at clash_words w clashes_at

-- for each individual and each of so many numbers of the series: which record first gave a value
abbrev pub block_size : ℕ
block_size = 16

abbrev pub values_at : ℕ
values_at = clashes_at + clash_words

abbrev pub value_place : ℕ → ℕ → ℕ
value_place i n = values_at + (i - 1) * block_size + n

abbrev pub values_end : ℕ
values_end = values_at + most_individuals * block_size

-- a set of a policy's records for each individual, where the values stood, and a number for each record, the header among them
abbrev pub record_words : ℕ
record_words = most_records / 32

abbrev pub sets_at : ℕ
sets_at = values_at

abbrev pub set_place : ℕ → ℕ
set_place i = sets_at + (i - 1) * record_words

abbrev pub records_of : List ℕ → ℕ → List ℕ
records_of w i = row_at record_words w (set_place i)

abbrev pub heights_at : ℕ
heights_at = sets_at + most_individuals * record_words

abbrev pub height_place : ℕ → ℕ
height_place k = heights_at + k

abbrev pub sets_end : ℕ
sets_end = height_place (suc most_records)

-- the words with x in the set of n words at a place
abbrev pub put_in : ℕ → List ℕ → ℕ → ℕ → List ℕ
put_in n w at x = put_at w at (including (row_at n w at) x)
