-- The classes of the individuals, and what whoever asks of the interpretation needs of the work slice.
use Rattle.std.specs.Prelude.{◌≤◌, ℕ, Bool, ◌||◌, cond, not, List, ◌≡◌, length}
use Rattle.frames.specs.Frames.{Only, Span}
use Rattle.meaning.specs.Limits.{work_size}
use Rattle.meaning.specs.Lists.{any}
use Rattle.meaning.specs.Model.{Fact, edge, facts_of, individual_count, member, value}
use Rattle.meaning.specs.ModelCheck.{is_member, is_model, on_edge}
use Rattle.meaning.specs.Records.{Name}
use Rattle.meaning.specs.Vocabulary.{vocabulary_of}
use Rattle.model.specs.Chain.{Readable}
use Rattle.satisfaction.specs.Places.{class_place, classes_end, classes_of, put_in, values_end}
use Rattle.words.specs.Rows.{class_words}
use Rattle.words.specs.Sets.{in_set}

-- whom a fact is of
abbrev pub owner_of : Fact → ℕ
owner_of (member a i) = i
owner_of (edge r i j) = i
owner_of (value f i v) = i

-- the classes that the facts put each individual in
pub record Classed (m w : List ℕ) : Type 0 where
  pub rows : (i a : ℕ) → Name (individual_count m) i → in_set (classes_of w i) a ≡ any (is_member a i) (facts_of m)

-- and nothing else changed
pub record AllEntered (m w w' : List ℕ) : Type 0 where
  pub classed : Classed m w'
  pub only : Only (Span 0 classes_end) w w'

-- what one fact puts in
abbrev pub entered : List ℕ → Fact → List ℕ
entered w (member a i) = put_in class_words w (class_place i) a
entered w (edge r i j) = w
entered w (value f i v) = w

-- individual i, where it is in class a, is in class b, or is apart from it
abbrev pub follows : List ℕ → ℕ → ℕ → Bool → ℕ → Bool
follows w a b apart i = not (in_set (classes_of w i) a) || cond apart (not (in_set (classes_of w i) b)) (in_set (classes_of w i) b)

-- a fact, where it is an edge of role r, leads into class c
abbrev pub is_ranged : List Fact → ℕ → ℕ → Fact → Bool
is_ranged F r c x = on_edge r (λ i j. any (is_member c j) F) x

-- a model that was read, with its individuals' classes in a full work slice
pub record Interpreted (m w : List ℕ) : Type 0 where
  pub long : work_size ≤ length w
  pub readable : Readable m
  pub classed : Classed m w

-- r tells whether the model satisfies the vocabulary, and the work slice is ready for more to be asked of the model
pub record Satisfied (v m w w' : List ℕ) (r : Bool) : Type 0 where
  pub told : r ≡ is_model (facts_of m) (vocabulary_of v)
  pub interpreted : Interpreted m w'
  pub only : Only (Span 0 values_end) w w'
