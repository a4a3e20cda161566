use Rattle.std.proofs.lemmas.Slice.{between_to_end}
use native.Mathlib.Omega.{arith}
use borrow.Author.Rules.{rules}
use Prim.Native.Nat.{◌-◌}
use mathlib.Core.Path.{◌≡◌, refl}
use lib.ListN.{drop, length, take}
use Rattle.std.specs.Ordering.{MatchOrdering}
use Rattle.std.specs.declared.cmp.Ordering.TheVariants.{Greater, Less}
use Rattle.entries.specs.Entries.{ComparesNext}
use Rattle.entries.proofs.Runs.{stepped}
use Rattle.entries.proofs.compare_step.Goals as goal

pub returns : goal.returns
returns c =
    let a = c.args in
    let x = a.x.now in
    let y = a.y.now in
    let z = c.then_with.result in
    let next : MatchOrdering c.compare_classes-classes.result (z ≡ Less)
    (ComparesNext a.work.now a.depths.now (take (length x - 1) (drop 1 x)) (take (length y - 1) (drop 1 y)) z) (z ≡ Greater) = search rules in
    stepped a.work.now a.depths.now x y c.requires.0 c.requires.1 c.classes_at-s.ensures c.classes_at-t.ensures refl refl c.compare_classes-classes.ensures
    (rw (between_to_end x 1 (length x) (omega arith), between_to_end y 1 (length y) (omega arith)) at next)
