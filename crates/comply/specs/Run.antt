-- What a run does, where it is known which bytes the input has and which the output holds.
use Rattle.std.specs.Prelude.{ℕ, List, Option, IfSome}
use Rattle.std.specs.Io.KnownBytes.{Appends, Keeps}
use Rattle.meaning.specs.Program.{program}
use Rattle.comply.specs.declared.Ending.{Ending}
use Rattle.comply.specs.declared.Ending.TheVariants.{Answered, Unread, Unanswered}

-- an answer is the program's, to all that the input had, and stands behind what the output held; where the input cannot be read there is none
abbrev pub Ran : Option (List ℕ) → Option (List ℕ) → Option (List ℕ) → Ending → Type 0
Ran input old new Answered = IfSome input (λ b. Appends old new (program b))
Ran input old new Unread = Keeps old new
Ran input old new Unanswered = Unit
