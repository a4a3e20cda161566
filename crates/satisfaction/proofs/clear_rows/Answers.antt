use mathlib.Core.Path.{◌∙◌}
use native.Mathlib.Omega.{arith}
use Rattle.satisfaction.proofs.clear_rows.Goals as goal

pub overflow_mul-place : goal.overflow_mul-place
overflow_mul-place c =
    let e = c.place.ensures ∙ c.individual_count.ensures in
    rw e (omega (arith, c.requires))

pub clear-requires : goal.clear-requires
clear-requires c =
    let e = c.place.ensures ∙ c.individual_count.ensures in
    rw e c.requires

pub returns : goal.returns
returns c =
    let e = c.place.ensures ∙ c.individual_count.ensures in
    rw e at c.clear.ensures
