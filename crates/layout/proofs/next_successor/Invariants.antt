-- `next_successor`: what is sought from row j on is sought from row i on.
use Prim.Native.Nat.{◌-◌, ◌≤◌}
use mathlib.Core.Path.{◌≡◌}
use Rattle.layout.specs.Combination.{next_successor}
use Rattle.layout.proofs.next_successor.Given as goal

abbrev pub invariant-loop-i : goal.invariant-loop-i
invariant-loop-i l = (l.i ≤ l.n) × (next_successor l.work l.x (l.n - l.j) l.j ≡ next_successor l.work l.x (l.n - l.i) l.i)
