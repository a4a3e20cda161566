-- The records of a countermodel.
use Rattle.std.specs.Prelude.{◌*◌, ℕ, List, [], ◌∷◌, ◌≡◌}
use Rattle.frames.specs.Rows.{put_at}
use Rattle.meaning.specs.Model.{Fact, fact_words}
use Rattle.records.specs.Written.{Format, link_at}

-- a fact is a record of five words
abbrev pub facts : Format Fact
facts = record { width = 5; words = fact_words }

-- record k of the output o' has these words, and all else is as it was in o
abbrev pub RecordPut : ℕ → ℕ → ℕ → ℕ → ℕ → ℕ → List ℕ → List ℕ → Type 0
RecordPut last k kind name x other o o' = o' ≡ put_at o (5 * k) (kind ∷ (name ∷ (x ∷ (other ∷ (link_at last k ∷ [])))))
