use mathlib.Core.Path.{◌∙◌, sym, refl}
use Rattle.owl.proofs.Whole.{not_counted, not_opened, not_parsed, opened_begins, refused, survey_counts, too_long_lem}
use Rattle.owl.proofs.read_owl.Goals as goal

pub returns-then-text-gt-MOST_TEXT : goal.returns-then-text-gt-MOST_TEXT
returns-then-text-gt-MOST_TEXT c = refused _ _ _ refl (too_long_lem _ c.if-text-gt-MOST_TEXT.true)

pub returns-in_default : goal.returns-in_default
returns-in_default c = refused _ _ _ refl (not_opened _ c.if-text-gt-MOST_TEXT.false c.in_default.ensures)

pub returns-in_default-survey : goal.returns-in_default-survey
returns-in_default-survey c =
    let b = opened_begins c.in-Some.ensures in
    refused _ _ _ refl (not_parsed _ c.if-text-gt-MOST_TEXT.false (survey_counts b c.in_default-survey.ensures))

pub returns-then-not-are_counted : goal.returns-then-not-are_counted
returns-then-not-are_counted c =
    let b = opened_begins c.in-Some.ensures in
    refused _ _ _ refl
    (not_counted _ c.if-text-gt-MOST_TEXT.false (survey_counts b c.in-Some-survey.ensures) c.are_counted.ensures c.if-not-are_counted.true)

pub fill-requires : goal.fill-requires
fill-requires c =
    let b = opened_begins c.in-Some.ensures in
    record {
      begins = (b, c.if-text-gt-MOST_TEXT.false, survey_counts b c.in-Some-survey.ensures);
      small = sym c.are_counted.ensures ∙ c.if-not-are_counted.false;
    }
