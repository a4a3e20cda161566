-- `may_exceed`: after i turns `all` is at most 65,536, and i constraints, whatever they are, have no more combinations.
use Prim.Native.Nat.{◌-◌, ◌≤◌}
use Rattle.meaning.specs.Limits.{most_combinations}
use Rattle.splitting.proofs.Most.{Within}
use Rattle.splitting.proofs.may_exceed.Given as goal

abbrev pub invariant-loop-constraint : goal.invariant-loop-constraint
invariant-loop-constraint l = (l._constraint ≤ l.n) × (l.all ≤ most_combinations) × Within l.ends l._constraint l.all

abbrev pub decreases-loop-constraint : goal.decreases-loop-constraint
decreases-loop-constraint l = l.n - l._constraint
