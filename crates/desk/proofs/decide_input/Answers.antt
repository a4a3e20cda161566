-- `decide_input`: the words, where the input is short enough.
use borrow.Author.Rules.{rules}
use borrow.Author.Tests.{leb-true, not-false, not-true}
use lib.ListN.{length}
use lib.Seq.{length-take-le}
use mathlib.Core.Path.{◌∙◌, sym}
use native.Mathlib.Omega.{arith}
use Rattle.meaning.specs.Limits.{most_bytes}
use Rattle.text.proofs.Outcomes.{decided_long, input_shown, refusal_shown}
use Rattle.desk.proofs.decide_input.Goals as goal

pub returns-then-not-is_short : goal.returns-then-not-is_short
returns-then-not-is_short c = refusal_shown _ (decided_long _ (sym c.is_short.ensures ∙ not-true _ c.if-not-is_short.true-raw))

pub decode-requires : goal.decode-requires
decode-requires c = omega (arith, leb-true (length c.args.input.now) most_bytes (sym c.is_short.ensures ∙ not-false _ c.if-not-is_short.false-raw))

pub slice_bounds-decide_words-end : goal.slice_bounds-decide_words-end
slice_bounds-decide_words-end c = omega (arith, leb-true (length c.args.input.now) most_bytes (sym c.is_short.ensures ∙ not-false _ c.if-not-is_short.false-raw))

pub slice_bounds-decide_words-end-2 : goal.slice_bounds-decide_words-end-2
slice_bounds-decide_words-end-2 c = sym (length-take-le _ _ (omega (arith, leb-true (length c.args.input.now) most_bytes (sym c.is_short.ensures ∙ not-false _ c.if-not-is_short.false-raw))))

pub decide_words-requires : goal.decide_words-requires
decide_words-requires c = (length-take-le _ _ (omega (arith, leb-true (length c.args.input.now) most_bytes (sym c.is_short.ensures ∙ not-false _ c.if-not-is_short.false-raw))), search rules, search rules)

pub returns : goal.returns
returns c = input_shown _ (sym c.is_short.ensures ∙ not-false _ c.if-not-is_short.false-raw) c.decode.ensures c.decide_words.ensures
