use Prim.Native.Nat.{◌+◌}
use mathlib.Core.Path.{refl}
use native.Mathlib.Omega.{arith}
use borrow.Author.Rules.{rules}
use borrow.Author.Tests.{tests}
use Rattle.extension.proofs.Rounds.{undue_all}
use Rattle.extension.specs.Depths.{is_due}
use Rattle.std.proofs.lemmas.Iterator.{YieldsList-from_range}
use Rattle.std.proofs.lemmas.Iterator.Search.{any_from_yields_List}
use Rattle.extension.proofs.is_any_due.Goals as goal

pub returns : goal.returns
returns c =
    λ h.
    let a = c.args in
    let last = c.last_record.result in
    rw (← c.last_record.ensures) (undue_all (any_from_yields_List (λ k. is_due a.p.now a.work.now (k + 1) a.n) _ _ c.any.result c.any.ensures.ran (YieldsList-from_range 0 last last refl (omega arith)) (λ x b q k. search (rules, tests))) h)
