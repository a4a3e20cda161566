use mathlib.Core.Bool.{not}
use mathlib.Core.Path.{◌∙◌, refl}
use native.Mathlib.Omega.{arith}
use borrow.Author.Rules.{rules}
use borrow.Author.Tests.{tests}
use Rattle.pairs.proofs.Pairs.{all_ranged}
use Rattle.pairs.specs.Pairs.{agree_in, has_both, pair_at, pair_count}
use Rattle.std.proofs.lemmas.Iterator.{YieldsList-from_range}
use Rattle.std.proofs.lemmas.Iterator.Search.{all_from_yields_List}
use Rattle.pairs.proofs.is_compatible.Goals as goal

pub returns : goal.returns
unfolding agree_in
returns c =
    let w = c.args.work.now in
    all_from_yields_List (λ i. not (has_both c.args.s.words (pair_at w i))) _ _ c.all.result c.all.ensures.ran (YieldsList-from_range 0 (pair_count w) (pair_count w) refl (omega arith)) (λ x b q k. search (rules, tests))
    ∙ all_ranged (λ i. not (has_both c.args.s.words (pair_at w i))) 0 (pair_count w)
