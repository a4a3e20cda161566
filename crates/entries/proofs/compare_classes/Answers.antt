use borrow.Author.Rules.{rules}
use mathlib.Core.Path.{◌∙◌, ◌≡◌, sym}
use lib.ListN.{length}
use Rattle.words.specs.Rows.{class_words}
use Rattle.entries.proofs.Classes.{compares_same, left_after, left_before, right_after, right_before}
use Rattle.entries.proofs.compare_classes.Goals as goal

pub returns-in_default : goal.returns-in_default
returns-in_default c =
    let a = c.args in
    let left : length a.s.words ≡ class_words = search rules in
    let right : length a.t.words ≡ class_words = search rules in
    compares_same a.s.words a.t.words left right a.more a.other c.in_default.ensures

pub returns-then-does_continue : goal.returns-then-does_continue
returns-then-does_continue c =
    let a = c.args in
    let left : length a.s.words ≡ class_words = search rules in
    let right : length a.t.words ≡ class_words = search rules in
    left_before a.s.words a.t.words left right c.in-Some.ensures a.more a.other (sym c.has.ensures ∙ c.if-has.true) (sym c.does_continue.ensures ∙ c.if-does_continue.true)

pub returns-else-does_continue : goal.returns-else-does_continue
returns-else-does_continue c =
    let a = c.args in
    let left : length a.s.words ≡ class_words = search rules in
    let right : length a.t.words ≡ class_words = search rules in
    left_after a.s.words a.t.words left right c.in-Some.ensures a.more a.other (sym c.has.ensures ∙ c.if-has.true) (sym c.does_continue.ensures ∙ c.if-does_continue.false)

pub returns-then-does_continue-2 : goal.returns-then-does_continue-2
returns-then-does_continue-2 c =
    let a = c.args in
    let left : length a.s.words ≡ class_words = search rules in
    let right : length a.t.words ≡ class_words = search rules in
    right_after a.s.words a.t.words left right c.in-Some.ensures a.more a.other (sym c.has.ensures ∙ c.if-has.false) (sym c.does_continue-2.ensures ∙ c.if-does_continue-2.true)

pub returns-else-does_continue-2 : goal.returns-else-does_continue-2
returns-else-does_continue-2 c =
    let a = c.args in
    let left : length a.s.words ≡ class_words = search rules in
    let right : length a.t.words ≡ class_words = search rules in
    right_before a.s.words a.t.words left right c.in-Some.ensures a.more a.other (sym c.has.ensures ∙ c.if-has.false) (sym c.does_continue-2.ensures ∙ c.if-does_continue-2.false)
