-- `start`: after i turns the first i constraints are at their first pieces.
use Prim.Native.Nat.{◌-◌, ◌≤◌}
use Rattle.splitting.specs.Constraints.{Started}
use Rattle.splitting.proofs.start.Given as goal

abbrev pub invariant-loop-i : goal.invariant-loop-i
invariant-loop-i l = (l.i ≤ l.n) × Started l.i l.initial.work l.work

abbrev pub decreases-loop-i : goal.decreases-loop-i
decreases-loop-i l = l.n - l.i
