use native.Mathlib.Omega.{arith}
use borrow.Author.Rules.{rules}
use Prim.Native.Nat.{◌*◌}
use mathlib.Core.Path.{◌≡◌}
use lib.ListN.{length}
use Rattle.words.specs.Rows.{class_words}
use Rattle.entries.proofs.Classes.{differs_first, differs_nowhere, words_agree}
use Rattle.entries.proofs.first_difference.Goals as goal

pub returns-in_err-from : goal.returns-in_err-from
returns-in_err-from c =
    let a = c.args in
    let left : length a.s.words ≡ class_words = search rules in
    let right : length a.t.words ≡ class_words = search rules in
    let h = words_agree a.s.words a.t.words class_words c.in_err-from.ensures in
    rw c.from_residual.ensures (differs_nowhere a.s.words a.t.words left right (32 * class_words) h (omega arith))

pub returns : goal.returns
returns c =
    let a = c.args in
    let d = c.in_ok-from.ensures in
    differs_first a.s.words a.t.words c.in_ok-from.from d.1 (search rules) (search rules) d.2
