-- `next`: what stands above i is what stands above x; i moves on to the next word.
use Prim.Native.Nat.{◌-◌}
use mathlib.Core.Path.{◌≡◌}
use Rattle.words.specs.Members.{members_above}
use Rattle.words.specs.Sets.{capacity}
use Rattle.words.proofs.next.Given as goal

abbrev pub invariant-loop-above : goal.invariant-loop-above
invariant-loop-above l = members_above l.words l.i ≡ members_above l.words l.x

abbrev pub decreases-loop-above : goal.decreases-loop-above
decreases-loop-above l = capacity l.words - l.i
