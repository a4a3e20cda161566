-- A limit in words is the limit in records, the header among them.
use Prim.Native.Nat.{◌*◌, suc}
use mathlib.Core.Path.{◌≡◌, refl}
use Rattle.meaning.specs.Limits.{most_axioms, most_facts, most_model_words, most_policy_words, most_records, most_vocabulary_words}

pub vocabulary_words_lem : most_vocabulary_words ≡ 4 * suc most_axioms
vocabulary_words_lem = refl

pub policy_words_lem : most_policy_words ≡ 6 * suc most_records
policy_words_lem = refl

pub model_words_lem : most_model_words ≡ 5 * suc most_facts
model_words_lem = refl
