-- What was read of an input says what the whole says: all of it was read, or it is too long. Assumes nothing.
use Rattle.std.proofs.Common.{[], ◌≡◌, ◌<◌, ◌≤◌, ◌+◌, ◌++◌, ◌∙◌, ℕ, List, ⊎_elim, append-nil, ap, arith, length, length-append, subst, sym, take}
use Rattle.std.proofs.lemmas.Bool.{cases_lt}
use Rattle.std.proofs.lemmas.List.{length-take-le}
use Rattle.std.specs.Prelude.{Option, None, Some, IfSome}
use Rattle.std.specs.Io.KnownBytes.{Appends, Consumes, IsAtEnd}
use borrow.Author.Tests.{lt-leb}
use Rattle.meaning.specs.Answers.{refused}
use Rattle.meaning.specs.Limits.{most_bytes}
use Rattle.meaning.specs.Program.{answer_line, program}

too_long : (b : List ℕ) → most_bytes < length b → program b ≡ answer_line (refused 40)
unfolding program
too_long b h = rw (lt-leb (length b) most_bytes h)

-- the front of an input: all of it, or so much that it is too long
enough : (front rest : List ℕ) (full : ℕ) → most_bytes < full → (length front < full → rest ≡ []) → program front ≡ program (front ++ rest)
enough front rest full h none =
    ⊎_elim
    (λ (k : length front < full). ap program (sym (ap (λ l. front ++ l) (none k) ∙ append-nil front)))
    (λ (k : full ≤ length front). too_long front (omega arith) ∙ sym (too_long (front ++ rest) (omega (arith, length-append front rest))))
    (cases_lt (length front) full)

pub answered : (input left old new : Option (List ℕ)) (n : ℕ) (buffer shown : List ℕ) → length buffer ≡ most_bytes + 1 → n ≤ length buffer → Consumes input left (take n buffer)
    → (n < length buffer → IsAtEnd left) → shown ≡ program (take n buffer) → Appends old new shown → IfSome input (λ b. Appends old new (program b))
answered None left old new n buffer shown full within took end e a = tt
answered (Some b) None old new n buffer shown full within took end e a = absurd took
answered (Some b) (Some rest) old new n buffer shown full within took end e a =
    let size = length-take-le n buffer within in
    let all : program (take n buffer) ≡ program b =
    enough (take n buffer) rest (length buffer) (omega arith) (λ (k : length (take n buffer) < length buffer). end (omega arith)) ∙ ap program (sym took) in
    subst (Appends old new) (e ∙ all) a
