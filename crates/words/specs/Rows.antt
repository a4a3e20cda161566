-- Sets of classes: how many words one takes, and one with a class more.
use Rattle.std.specs.Prelude.{◌/◌, ℕ, cond, List, ◌≡◌, eqb}
use Rattle.meaning.specs.Limits.{most_classes}
use Rattle.meaning.specs.Records.{is_name}
use Rattle.words.specs.Sets.{in_set}

abbrev pub class_words : ℕ
class_words = most_classes / 32

-- a set of classes contains what another does, and c, where c is the number of a class
abbrev pub ContainsAlso : List ℕ → ℕ → List ℕ → Type 0
ContainsAlso ws c ws' = (d : ℕ) → in_set ws' d ≡ cond (eqb d c) (is_name most_classes d) (in_set ws d)
