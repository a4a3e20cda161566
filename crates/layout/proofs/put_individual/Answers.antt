use mathlib.Core.Path.{◌∙◌}
use lib.ListN.{length-set}
use native.Mathlib.Omega.{arith}
use borrow.Author.Rules.{rules}
use Rattle.layout.proofs.Entries.{individual_put}
use Rattle.layout.proofs.put_individual.Goals as goal

pub bounds-work-at-2 : goal.bounds-work-at-2
bounds-work-at-2 c = simp length-set (omega arith)

pub store-requires : goal.store-requires
store-requires c = simp length-set (omega arith)

pub shape_of-work : goal.shape_of-work
shape_of-work c = c.store.auto.words ∙ simp length-set

pub returns : goal.returns
returns c =
    let p = c.requires in
    individual_put p (search rules) c.store.ensures
