use borrow.Author.Rules.{rules}
use Prim.Native.Nat.{◌+◌, ◌-◌}
use mathlib.Core.Path.{◌≡◌, refl}
use native.Mathlib.Omega.{arith}
use Rattle.carriers.proofs.Linking.{linking_some}
use Rattle.carriers.proofs.note_rows.Goals as goal

pub loop-j-preserved : goal.loop-j-preserved
loop-j-preserved c =
    let s = c.requires in
    let u : c.loop-j.j - 1 + 1 ≡ c.loop-j.j = omega arith in (
      search rules,
      linking_some c.loop-j-test.true c.loop-j.invariant.1 (rw u at c.slot_of.ensures) s.0 s.1 refl
          c.if-slot_of-eq0.false (rw c.place.ensures at c.parent_of.ensures) (rw u at c.link.ensures),
    )
