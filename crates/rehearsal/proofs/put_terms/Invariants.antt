-- `put_terms`: at term t those before it are put, and the others are left.
use Prim.Native.Nat.{◌-◌}
use Rattle.rehearsal.proofs.Terms.{TermsLeft}
use Rattle.rehearsal.proofs.put_terms.Given as goal

abbrev pub invariant-loop-t : goal.invariant-loop-t
invariant-loop-t l = TermsLeft l.initial.out l.initial.cursor l.n l.m l.out l.cursor l.t

abbrev pub decreases-loop-t : goal.decreases-loop-t
decreases-loop-t l = l.m - l.t
