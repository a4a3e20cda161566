-- `encode`: at word i the bytes of those before it are put, and the others are left.
use Rattle.input.proofs.Bytes.{BytesLeft}
use Rattle.input.proofs.encode.Given as goal

abbrev pub invariant-loop-w : goal.invariant-loop-w
invariant-loop-w l = BytesLeft l.words l.initial.bytes l.bytes l.at l.w-index
