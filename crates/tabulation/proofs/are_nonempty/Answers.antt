use mathlib.Core.Path.{◌∙◌, refl}
use native.Mathlib.Omega.{arith}
use borrow.Author.Rules.{rules}
use Rattle.pairs.proofs.Pairs.{all_ranged}
use Rattle.std.proofs.lemmas.Iterator.{YieldsList-from_range}
use Rattle.std.proofs.lemmas.Iterator.Search.{all_from_yields_List}
use Rattle.tabulation.proofs.Cleanness.{value_told}
use Rattle.tabulation.specs.Clean.{non_empty_at}
use Rattle.tabulation.proofs.are_nonempty.Goals as goal

pub returns : goal.returns
returns c =
    let w = c.args.work.now in
    all_from_yields_List (non_empty_at w) _ _ c.all.result c.all.ensures.ran (YieldsList-from_range 0 c.args.n c.args.n refl (omega arith)) (λ x b q k. search (rules, value_told))
    ∙ all_ranged (non_empty_at w) 0 c.args.n
