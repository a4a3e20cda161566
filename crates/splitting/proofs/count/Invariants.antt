-- `count`: c pieces are passed, the last of them with upper end x.
use Prim.Native.Nat.{◌+◌, ◌-◌, ◌≤◌}
use Rattle.layout.specs.Tables.{interval_of}
use Rattle.meaning.specs.Policy.{Policy}
use Rattle.splitting.proofs.Pieces.{Walked}
use Rattle.splitting.specs.Ends.{Ends}
use Rattle.splitting.proofs.count.Given as goal

abbrev pub invariant-loop-x : goal.invariant-loop-x
invariant-loop-x l =
    (l.x ≤ l.hi) × (1 ≤ l.c) × (l.c + l.lo ≤ l.x + 1) × ((Q : Policy) → Ends Q l.ends → Walked Q (interval_of l.f.0 l.lo l.hi) l.c l.x)

abbrev pub decreases-loop-x : goal.decreases-loop-x
decreases-loop-x l = l.hi - l.x
