-- What the program decides of its input: the tests of `program` by name, and its outcome before it is printed.
use Rattle.std.specs.Prelude.{◌*◌, ℕ, Bool, cond, List, eqb, leb, length}
use Rattle.meaning.specs.Answers.{VerdictResult}
use Rattle.meaning.specs.Limits.{most_bytes, output_size, work_size}
use Rattle.meaning.specs.Operations.{Outcome, compliance, refuses}
use Rattle.meaning.specs.Program.{next_part, part_at, words_of}

-- where the second policy begins, and where the three parts end
abbrev pub third_part : List ℕ → ℕ
third_part ws = next_part ws (next_part ws 0)

abbrev pub parts_end : List ℕ → ℕ
parts_end ws = next_part ws (third_part ws)

-- an input of so many bytes is neither cut short nor followed by more (SPECIFICATION 10.1)
abbrev pub exact : ℕ → List ℕ → Bool
exact bytes ws = eqb bytes (4 * parts_end ws)

-- the outcome of an input of so many bytes and these words
unfoldable pub decided_words : ℕ → List ℕ → Outcome VerdictResult
decided_words bytes ws =
    let told = compliance (part_at ws 0) (part_at ws (next_part ws 0)) (part_at ws (third_part ws)) work_size output_size in
    cond (exact bytes ws) told (refuses 40)

-- the outcome that the program prints
unfoldable pub decided : List ℕ → Outcome VerdictResult
decided b = cond (leb (length b) most_bytes) (decided_words (length b) (words_of b)) (refuses 40)
