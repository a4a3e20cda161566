use mathlib.Core.Path.{refl}
use native.Mathlib.Omega.{arith}
use Rattle.splitting.proofs.Nearest.{upper_far, upper_near}
use Rattle.splitting.proofs.next_upper.Goals as goal

pub returns-then-y-p : goal.returns-then-y-p
returns-then-y-p c = record { lower_bound = (omega arith, omega arith); next_upper = λ Q n. upper_near _ _ _ _ (c.next_end-y.ensures.next_end Q n) c.if-y-p.true }

pub overflow_sub-result : goal.overflow_sub-result
overflow_sub-result c = omega arith

pub returns : goal.returns
returns c = record { lower_bound = (omega arith, omega arith); next_upper = λ Q n. upper_far _ _ _ _ _ (c.next_end-y.ensures.next_end Q n) c.if-y-p.false refl }
