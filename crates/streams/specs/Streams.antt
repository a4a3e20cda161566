-- What the answer of a read says, and what a buffer then holds.
use Rattle.std.specs.Prelude.{ℕ, zero, suc, ◌<◌, ◌≤◌, List, [], length, take, Option, None, Some, Result, Ok, Err}
use Rattle.std.specs.declared.io.Error.{Error}
use Rattle.std.specs.Io.KnownBytes.{Appends, Consumes, IsAtEnd}

-- a number of bytes above 0 was brought, 0 is the end of the input, and an error is a failure
abbrev pub brought_by : Result ℕ Error → Result (Option ℕ) Error
brought_by (Ok zero) = Ok None
brought_by (Ok (suc k)) = Ok (Some (suc k))
brought_by (Err e) = Err e

-- bytes that were brought are one at least and n at most
abbrev pub Fits : Result (Option ℕ) Error → ℕ → Type 0
Fits (Ok (Some k)) n = (0 < k) × (k ≤ n)
Fits (Ok None) n = Unit
Fits (Err e) n = Unit

-- where the input was read, so many bytes stand at the front of the buffer
abbrev pub Held : Result ℕ Error → List ℕ → Type 0
Held (Ok n) buffer = n ≤ length buffer
Held (Err e) buffer = Unit

-- what a read into a part of the buffer took of the bytes that a reader has left, where those are known: the bytes that it brought, which
-- stand at the front of the part. At the end, and where the read failed, it took none; at the end none are left, if the part has room.
abbrev pub Took : Option (List ℕ) → Option (List ℕ) → Result (Option ℕ) Error → List ℕ → Type 0
Took old new (Ok (Some k)) part = Consumes old new (take k part)
Took old new (Ok None) part = Consumes old new [] × (0 < length part → IsAtEnd new)
Took old new (Err e) part = Consumes old new []

-- what reading took: the bytes at the front of the buffer, and where the buffer is not full none are left
abbrev pub WasRead : Option (List ℕ) → Option (List ℕ) → Result ℕ Error → List ℕ → Type 0
WasRead old new (Ok n) buffer = Consumes old new (take n buffer) × (n < length buffer → IsAtEnd new)
WasRead old new (Err e) buffer = Unit

-- an answer that was written stands behind the bytes that a writer holds, where those are known
abbrev pub WasWritten : Option (List ℕ) → Option (List ℕ) → Result Unit Error → List ℕ → Type 0
WasWritten old new (Ok u) answer = Appends old new answer
WasWritten old new (Err e) answer = Unit
