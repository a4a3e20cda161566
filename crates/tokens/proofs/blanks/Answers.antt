-- `blanks`: the bytes that were passed, and those that pass from there on.
use Rattle.std.proofs.Common.{rules, ◌∙◌, ap}
use native.Mathlib.Omega.{arith}
use Rattle.std.specs.List.{prefix_len}
use Rattle.tokens.specs.Tokens.{is_space}
use Rattle.tokens.proofs.Reading.{space_small, whole}
use Rattle.tokens.proofs.blanks.Goals as goal

pub overflow_add-result : goal.overflow_add-result
overflow_add-result c =
    let t = c.args.text.now in
    let e = c.passing.ensures is_space (λ b r e. search rules) ∙ ap (prefix_len is_space) (whole c.loop-n.n t) in
    omega (arith, space_small t c.loop-n.n c.loop-n.invariant.0 e)
