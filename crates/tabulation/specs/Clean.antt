-- The tests of the tables that tell whether the form is impossible: constraints with no value, and sets with disjoint classes.
use Rattle.std.specs.Prelude.{ℕ, Bool, ◌&&◌, not, List, ◌≡◌}
use Rattle.layout.specs.Tables.{Tabled, constraint_at}
use Rattle.layout.specs.declared.Tables.{Tables}
use Rattle.meaning.specs.Intervals.{is_non_empty}
use Rattle.meaning.specs.Lists.{all}
use Rattle.meaning.specs.NormalForm.{Form, clean_node, clean_successors}
use Rattle.meaning.specs.Stated.{disjoint_pairs}
use Rattle.meaning.specs.Vocabulary.{Vocabulary, vocabulary_of}
use Rattle.pairs.specs.Pairs.{PairRows, has_both}

-- rules 3 and 7 find nothing in the form
abbrev pub clean_form : Vocabulary → Form → Bool
clean_form K t = clean_node K t.node && clean_successors K t.successors

-- constraint m has a value
abbrev pub non_empty_at : List ℕ → ℕ → Bool
non_empty_at w m = is_non_empty (constraint_at w m).lo (constraint_at w m).hi

-- the set has both of no two classes that the vocabulary makes disjoint
unfoldable pub agree : Vocabulary → List ℕ → Bool
agree K ws = all (λ p. not (has_both ws p)) (disjoint_pairs K)

-- what the test of the tables tells of every vocabulary whose pairs are listed
abbrev pub DecidesClean : List ℕ → Tables → Bool → Type 0
DecidesClean w t r = (v : List ℕ) (x : Form) → PairRows v w → Tabled (vocabulary_of v) x w t → r ≡ clean_form (vocabulary_of v) x
