-- `ClassSet::new`: a row of zeros has no member.
use mathlib.Core.Path.{refl}
use Rattle.words.proofs.Laws.{in_zeros}
use Rattle.words.specs.Rows.{class_words}
use Rattle.words.proofs.ClassSet.new.Goals as goal

pub returns : goal.returns
returns c = record { words_value = refl; by_index = in_zeros class_words }
