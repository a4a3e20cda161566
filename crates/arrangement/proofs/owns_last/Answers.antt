use native.Mathlib.Omega.{arith}
use Rattle.arrangement.proofs.Emptying.{owns_none, owns_told}
use Rattle.arrangement.proofs.owns_last.Goals as goal

pub holder_of-requires : goal.holder_of-requires
holder_of-requires c = let g = c.requires in let k = g.constraints in (omega (arith, c.if-m-gt0.true), g.long)

pub returns-then-m-gt0 : goal.returns-then-m-gt0
returns-then-m-gt0 c = let a = c.args in owns_told a.work.now a.i a.m c.if-m-gt0.true c.holder_of.ensures

pub returns-else-m-gt0 : goal.returns-else-m-gt0
returns-else-m-gt0 c = let a = c.args in owns_none a.work.now a.i a.m c.if-m-gt0.false
