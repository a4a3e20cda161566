-- The limits (SPECIFICATION 12), each under one name; src/limits.rt has them for the code.
use Rattle.std.specs.Prelude.{ℕ}

-- names of each series
abbrev pub most_classes : ℕ
most_classes = 256

abbrev pub most_roles : ℕ
most_roles = 64

abbrev pub most_features : ℕ
most_features = 64

-- a vocabulary: records behind the header, and words in all
abbrev pub most_axioms : ℕ
most_axioms = 1024

abbrev pub most_vocabulary_words : ℕ
most_vocabulary_words = 4100

-- a policy: records behind the header, and words in all
abbrev pub most_records : ℕ
most_records = 512

abbrev pub most_policy_words : ℕ
most_policy_words = 3078

-- the depth of a conjunct
abbrev pub most_depth : ℕ
most_depth = 16

-- a model: individuals, records behind the header, and words in all
abbrev pub most_individuals : ℕ
most_individuals = 512

abbrev pub most_facts : ℕ
most_facts = 140000

abbrev pub most_model_words : ℕ
most_model_words = 700005

-- combinations of a possible term
abbrev pub most_combinations : ℕ
most_combinations = 65536

-- a work slice is full from so many words on
abbrev pub work_size : ℕ
work_size = 16384

-- the program: the words of its output slice, and the bytes of its longest input
abbrev pub output_size : ℕ
output_size = 16384

abbrev pub most_bytes : ℕ
most_bytes = 65536

-- an OWL text: its bytes, and the letters and digits of a name
abbrev pub most_text : ℕ
most_text = 65536

abbrev pub most_name_bytes : ℕ
most_name_bytes = 32
