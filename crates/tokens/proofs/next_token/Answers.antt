-- `next_token`: space is passed, then a token's first byte and what goes on it.
use Rattle.std.proofs.Common.{rules, ◌+◌, ◌∙◌, ap}
use native.Mathlib.Omega.{arith}
use Rattle.std.specs.List.{prefix_len}
use Rattle.tokens.specs.Tokens.{goes_on, is_space}
use Rattle.tokens.proofs.Reading.{read_none, read_token, space_small, token_small, whole}
use Rattle.tokens.proofs.next_token.Goals as goal

pub overflow_add-from : goal.overflow_add-from
overflow_add-from c =
    let t = c.args.text.now in
    let e = c.blanks.ensures ∙ ap (prefix_len is_space) (whole c.args.at t) in
    omega (arith, space_small t c.args.at c.requires e)

pub returns-in_err-first : goal.returns-in_err-first
returns-in_err-first c =
    let t = c.args.text.now in
    let e = c.blanks.ensures ∙ ap (prefix_len is_space) (whole c.args.at t) in
    rw c.from_residual.ensures (read_none t c.args.at c.requires e c.in_err-first.ensures.lookup.3)

pub overflow_add-to-2 : goal.overflow_add-to-2
overflow_add-to-2 c =
    let t = c.args.text.now in
    let p = goes_on c.in_ok-first.field-0.now in
    let l = c.in_ok-first.ensures.lookup in
    let e = c.blanks.ensures ∙ ap (prefix_len is_space) (whole c.args.at t) in
    let q = c.passing.ensures p (λ b r e. search rules) ∙ ap (prefix_len p) (whole (c.args.at + c.blanks.result + 1) t) in
    omega (arith, token_small t c.args.at c.requires e l.3.0 (l.3.1 0) q)

pub returns : goal.returns
returns c =
    let t = c.args.text.now in
    let p = goes_on c.in_ok-first.field-0.now in
    let l = c.in_ok-first.ensures.lookup in
    let e = c.blanks.ensures ∙ ap (prefix_len is_space) (whole c.args.at t) in
    let q = c.passing.ensures p (λ b r e. search rules) ∙ ap (prefix_len p) (whole (c.args.at + c.blanks.result + 1) t) in
    read_token t c.args.at c.requires e l.3.0 (l.3.1 0) q
