use lib.ListN.{length-set}
use native.Mathlib.Omega.{arith}
use Rattle.pairs.proofs.Pairs.{with_words}
use Rattle.pairs.proofs.add_pair.Goals as goal

pub bounds-work-at-2 : goal.bounds-work-at-2
bounds-work-at-2 c = simp length-set (omega (arith, c.pair_at-at.ensures, c.requires.0, c.requires.1))

pub bounds-work-2560-2 : goal.bounds-work-2560-2
bounds-work-2560-2 c = simp length-set (omega (arith, c.requires.1))

pub returns : goal.returns
returns c = with_words c.args.work.now c.args.a.0 c.args.b.0 c.pair_at-at.ensures
