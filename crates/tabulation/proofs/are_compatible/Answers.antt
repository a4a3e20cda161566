use mathlib.Core.Path.{◌∙◌, refl}
use native.Mathlib.Omega.{arith}
use borrow.Author.Rules.{rules}
use Rattle.layout.specs.Tables.{set_at}
use Rattle.pairs.proofs.Pairs.{all_ranged}
use Rattle.pairs.specs.Pairs.{agree_in}
use Rattle.std.proofs.lemmas.Iterator.{YieldsList-from_range}
use Rattle.std.proofs.lemmas.Iterator.Search.{all_from_yields_List}
use Rattle.tabulation.proofs.Cleanness.{row_agrees}
use Rattle.tabulation.proofs.are_compatible.Goals as goal

pub returns : goal.returns
returns c =
    let w = c.args.work.now in
    all_from_yields_List (λ i. agree_in w (set_at w i)) _ _ c.all.result c.all.ensures.ran (YieldsList-from_range 0 c.args.n c.args.n refl (omega arith)) (λ x b q k. search (rules, row_agrees))
    ∙ all_ranged (λ i. agree_in w (set_at w i)) 0 c.args.n
