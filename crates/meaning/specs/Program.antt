-- SPECIFICATION 10: the program, as a function from the bytes of standard input to the bytes printed.
use Prim.Native.Char.{code}
use Rattle.std.specs.Prelude.{◌%◌, ◌*◌, ◌+◌, ◌/◌, suc, zero, ℕ, ◌&&◌, cond, List, [], ◌++◌, ◌∷◌, map, eqb, leb, ltb, drop, get_or, length, take}
use Prim.Native.String.{String, [] as []ˢ, ◌∷◌ as ◌∷ˢ◌}
use Rattle.meaning.specs.Answers.{Answer, VerdictResult, compliant, outside, refused, result}
use Rattle.meaning.specs.Limits.{most_bytes, output_size, work_size}
use Rattle.meaning.specs.Lists.{counting, flat_map}
use Rattle.meaning.specs.Model.{Fact, edge, facts_of, member, value}
use Rattle.meaning.specs.Operations.{Outcome, compliance}

-- word i of the input, its least significant byte first
abbrev pub word_at : List ℕ → ℕ → ℕ
word_at b i = get_or b (4 * i) 0 + 256 * get_or b (4 * i + 1) 0 + 65536 * get_or b (4 * i + 2) 0 + 16777216 * get_or b (4 * i + 3) 0

abbrev pub words_of : List ℕ → List ℕ
words_of b = map (word_at b) (counting 0 (length b / 4))

-- the bytes of words, as they are then read
abbrev pub word_bytes : ℕ → List ℕ
word_bytes w = w % 256 ∷ (w / 256 % 256 ∷ (w / 65536 % 256 ∷ (w / 16777216 % 256 ∷ [])))

unfoldable pub bytes_of : List ℕ → List ℕ
bytes_of ws = flat_map word_bytes ws

-- SPECIFICATION 10.1: the part that begins at word i with its word count, and where the next begins
abbrev pub part_at : List ℕ → ℕ → List ℕ
part_at ws i = take (get_or ws i 0) (drop (suc i) ws)

abbrev pub next_part : List ℕ → ℕ → ℕ
next_part ws i = suc i + get_or ws i 0

-- a text's bytes
abbrev pub bytes : String → List ℕ
bytes []ˢ = []
bytes (c ∷ˢ s) = code c ∷ bytes s

-- a number in base ten, in at most so many digits
abbrev pub decimal_from : ℕ → ℕ → List ℕ
decimal_from zero n = []
decimal_from (suc f) n = let more = decimal_from f (n / 10) ++ ((48 + n % 10) ∷ []) in cond (ltb n 10) ((48 + n) ∷ []) more

unfoldable pub decimal : ℕ → List ℕ
decimal n = decimal_from (suc n) n

-- the words of a line, a space between two and a line feed after the last
abbrev pub line : List ℕ → List ℕ → List ℕ
line name [] = name ++ (10 ∷ [])
line name (n ∷ l) = line (name ++ (32 ∷ decimal n)) l

-- SPECIFICATION 10.3: the first line
abbrev pub answer_line : Answer VerdictResult → List ℕ
answer_line (refused n) = line (bytes "refused") (n ∷ [])
answer_line (result compliant) = line (bytes "compliant") []
answer_line (result (outside s q n)) = line (bytes "outside") (s ∷ (q ∷ []))

-- SPECIFICATION 10.3: the line of a record
abbrev pub fact_line : Fact → List ℕ
fact_line (member a i) = line (bytes "member") (a ∷ (i ∷ []))
fact_line (edge r i j) = line (bytes "edge") (r ∷ (i ∷ (j ∷ [])))
fact_line (value f i v) = line (bytes "value") (f ∷ (i ∷ (v ∷ [])))

-- the whole text
unfoldable pub printed : Outcome VerdictResult → List ℕ
printed r = answer_line r.answer ++ flat_map fact_line (facts_of r.words)

-- SPECIFICATION 10.1 and 10.2: 40 before any other number, then Compliance
unfoldable pub program : List ℕ → List ℕ
program b =
    let ws = words_of b in
    let p = next_part ws 0 in
    let q = next_part ws p in
    let whole = leb (length b) most_bytes && eqb (length b) (4 * next_part ws q) in
    let decided = printed (compliance (part_at ws 0) (part_at ws p) (part_at ws q) work_size output_size) in
    cond whole decided (answer_line (refused 40))
