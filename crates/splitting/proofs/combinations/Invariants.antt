-- `combinations`: after i turns the product of the first i constraints' numbers of pieces.
use Prim.Native.Nat.{◌-◌, ◌≤◌}
use mathlib.Core.Path.{◌≡◌}
use Rattle.meaning.specs.Limits.{most_combinations}
use Rattle.meaning.specs.Policy.{Policy}
use Rattle.splitting.proofs.Ways.{ways}
use Rattle.splitting.specs.Ends.{Ends}
use Rattle.splitting.proofs.combinations.Given as goal

abbrev pub invariant-loop-i : goal.invariant-loop-i
invariant-loop-i l = (l.i ≤ l.n) × (l.all ≤ most_combinations) × ((Q : Policy) → Ends Q l.ends → l.all ≡ ways Q l.work l.i)

abbrev pub decreases-loop-i : goal.decreases-loop-i
decreases-loop-i l = l.n - l.i
