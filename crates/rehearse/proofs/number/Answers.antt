use Rattle.rehearse.proofs.Numbers.{digit_bounds, digits_more, digits_all, digits_start, no_digit, no_word}
use Rattle.rehearse.proofs.number.Goals as goal

pub loop-b-init : goal.loop-b-init
loop-b-init c = digits_start _

pub returns-then-not-is_digit : goal.returns-then-not-is_digit
returns-then-not-is_digit c = no_digit c.loop-b.invariant c.loop-b-test.true c.is_digit.ensures c.if-not-is_digit.true

pub digit-requires : goal.digit-requires
digit-requires c = digit_bounds _ c.is_digit.ensures c.if-not-is_digit.false

pub returns-then-value-gt-MOST_WORD : goal.returns-then-value-gt-MOST_WORD
returns-then-value-gt-MOST_WORD c = no_word c.loop-b.invariant c.loop-b-test.true c.is_digit.ensures c.if-not-is_digit.false
    c.digit.ensures.0 c.if-value-gt-MOST_WORD.true

pub loop-b-preserved : goal.loop-b-preserved
loop-b-preserved c = digits_more c.loop-b.invariant c.loop-b-test.true c.is_digit.ensures c.if-not-is_digit.false
    c.digit.ensures.0 c.if-value-gt-MOST_WORD.false

pub returns : goal.returns
returns c = digits_all c.loop-b.invariant c.loop-b-test.false
