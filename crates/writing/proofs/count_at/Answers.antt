use borrow.Author.Rules.{rules}
use native.Mathlib.Omega.{arith}
use lib.ListN.{length}
use mathlib.Core.Path.{◌≡◌}
use Rattle.words.proofs.Laws.{members_few}
use Rattle.words.specs.Rows.{class_words}
use Rattle.writing.proofs.Counting.{entry_counted}
use Rattle.writing.proofs.count_at.Goals as goal

pub overflow_add-result : goal.overflow_add-result
overflow_add-result c =
    let s = c.classes_at.result.words in
    let e : length s ≡ class_words = search rules in
    omega (arith, members_few s)

pub returns : goal.returns
returns c =
    let s = c.classes_at.result.words in
    let e : length s ≡ class_words = search rules in
    entry_counted _ _ c.classes_at.ensures c.count.ensures e
