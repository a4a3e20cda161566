use mathlib.Core.Path.{◌∙◌, ◌≡◌}
use Rattle.extension.proofs.Passing.{passing_ends, passing_fails, passing_falls, passing_on, passing_starts}
use Rattle.frames.proofs.Rows.{row_part}
use Rattle.satisfaction.specs.Places.{record_words, records_of}
use Rattle.words.specs.Sets.{in_set}
use Rattle.extension.proofs.does_hold.Goals as goal

pub loop-j-init : goal.loop-j-init
loop-j-init c = passing_starts c.args.work.now c.args.i c.args.k c.requires.2

pub returns-then-not-has : goal.returns-then-not-has
returns-then-not-has c =
    let w = c.args.work.now in
    let e : c.has.result ≡ in_set (records_of w c.args.i) c.loop-j.j = c.has.ensures ∙ rw (row_part record_words w c.set_place-at.result, c.set_place-at.ensures) in
    passing_fails c.loop-j.invariant c.loop-j-test.true e c.if-not-has.true-raw

pub loop-j-smaller : goal.loop-j-smaller
loop-j-smaller c =
    let w = c.args.work.now in
    let e : c.has.result ≡ in_set (records_of w c.args.i) c.loop-j.j = c.has.ensures ∙ rw (row_part record_words w c.set_place-at.result, c.set_place-at.ensures) in
    passing_falls c.loop-j.invariant c.loop-j-test.true e c.next_of.ensures c.link_of-j.ensures

pub loop-j-preserved : goal.loop-j-preserved
loop-j-preserved c =
    let w = c.args.work.now in
    let e : c.has.result ≡ in_set (records_of w c.args.i) c.loop-j.j = c.has.ensures ∙ rw (row_part record_words w c.set_place-at.result, c.set_place-at.ensures) in
    passing_on c.loop-j.invariant c.loop-j-test.true e c.next_of.ensures c.link_of-j.ensures c.if-not-has.false-raw

pub returns : goal.returns
returns c = passing_ends c.loop-j.invariant c.loop-j-test.false
