-- `decide_words`: the parts, and Compliance of them.
use borrow.Author.Rules.{rules}
use borrow.Author.Tests.{not-false, not-true}
use mathlib.Core.Path.{◌∙◌, sym}
use Rattle.text.proofs.Outcomes.{first_stands, refusal_shown, second_stands, third_stands, words_inexact, words_shown}
use Rattle.desk.proofs.decide_words.Goals as goal

pub returns-then-not-is_exact : goal.returns-then-not-is_exact
returns-then-not-is_exact c = refusal_shown _ (words_inexact _ _ (sym c.is_exact.ensures ∙ not-true _ c.if-not-is_exact.true-raw))

pub part-requires : goal.part-requires
part-requires c = (first_stands _ c.args.words.now (sym c.is_exact.ensures ∙ not-false _ c.if-not-is_exact.false-raw) c.requires.0, search rules)

pub part-requires-2 : goal.part-requires-2
part-requires-2 c = (second_stands _ c.args.words.now (sym c.is_exact.ensures ∙ not-false _ c.if-not-is_exact.false-raw) c.requires.0 c.next_part-p.ensures.value, search rules)

pub part-requires-3 : goal.part-requires-3
part-requires-3 c = (third_stands _ c.args.words.now (sym c.is_exact.ensures ∙ not-false _ c.if-not-is_exact.false-raw) c.requires.0 c.next_part-p.ensures.value c.next_part-q.ensures.value, search rules)

pub returns : goal.returns
returns c = let told = c.compliance.ensures in
    words_shown _ c.args.words.now (sym c.is_exact.ensures ∙ not-false _ c.if-not-is_exact.false-raw)
    c.next_part-p.ensures.value c.next_part-q.ensures.value c.part.ensures c.part-2.ensures c.part-3.ensures
    c.requires.1 c.requires.2 _ told.answer _ _ told.output
