use native.Mathlib.Omega.{arith}
use Rattle.owl.proofs.Looking.{found_small}
use Rattle.owl.proofs.Source.look_up.Goals as goal

pub overflow_cast-result : goal.overflow_cast-result
overflow_cast-result c = let k = found_small _ _ _ _ _ c.in_ok-found.ensures in omega (arith, k, c.requires.1)
