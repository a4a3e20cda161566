-- What has a part with values in an interval has values in common with it.
use Prim.Native.Nat.{ℕ}
use lib.Dec.{T, leb, leb→le, le→leb}
use native.Mathlib.Omega.{arith}
use Rattle.intervals.specs.Touching.{touches}
use Rattle.meaning.specs.Intervals.{NonEmpty, is_inside}
use Rattle.theory.proofs.Rules.{T_and, and_T}

pub part_touches : (lo hi low high from to : ℕ) → NonEmpty from to → T (is_inside low high from to) → T (is_inside lo hi from to) → T (touches lo hi low high)
part_touches lo hi low high from to n s t =
    let a = T_and (leb low from) (leb to high) s in
    let b = T_and (leb lo from) (leb to hi) t in
    let w = leb→le low from a.0 in
    let x = leb→le to high a.1 in
    let y = leb→le lo from b.0 in
    let z = leb→le to hi b.1 in
    and_T (leb low hi) (leb lo high) (le→leb low hi (omega arith)) (le→leb lo high (omega arith))
