-- What is written of a load.
use Rattle.std.specs.Prelude.{ℕ, List, [], ◌≡◌, Option}
use Rattle.std.specs.Io.KnownBytes.{Appends, Keeps}
use Rattle.rehearse.specs.declared.Delivery.{Delivery}
use Rattle.rehearse.specs.declared.Delivery.TheVariants.{Written, Refused, Failed}

-- a load that was written stands behind the bytes that a writer holds, where those are known; of one that is refused, which has no bytes,
-- nothing does
abbrev pub WasWritten : Option (List ℕ) → Option (List ℕ) → Delivery → List ℕ → Type 0
WasWritten old new Written bytes = Appends old new bytes
WasWritten old new Refused bytes = (bytes ≡ []) × Keeps old new
WasWritten old new Failed bytes = Unit
