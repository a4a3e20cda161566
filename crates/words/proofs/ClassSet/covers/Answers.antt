use borrow.Author.Rules.{rules}
use lib.ListN.{length}
use mathlib.Core.Path.{◌≡◌}
use native.Mathlib.Omega.{arith}
use Rattle.words.proofs.Growth.{covers_all, covers_more, covers_none}
use Rattle.words.specs.Rows.{class_words}
use Rattle.words.proofs.ClassSet.covers.Goals as goal

pub loop-i-init : goal.loop-i-init
loop-i-init c = (search rules, covers_none c.args.self.words c.args.other.words)

pub loop-i-preserved : goal.loop-i-preserved
loop-i-preserved c =
    let l = c.loop-i in
    let a = c.args in
    (search rules, covers_more a.self.words a.other.words l.same l.i l.invariant.1)

pub returns : goal.returns
returns c =
    let l = c.loop-i in
    let a = c.args in
    let left : length a.self.words ≡ class_words = search rules in
    let right : length a.other.words ≡ class_words = search rules in
    covers_all a.self.words a.other.words (omega arith) l.same l.i (omega arith) l.invariant.1
