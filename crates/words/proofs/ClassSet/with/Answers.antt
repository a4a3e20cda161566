-- `ClassSet::with`: a set of classes has a bit for each class.
use borrow.Author.Rules.{rules}
use lib.ListN.{length}
use mathlib.Core.Path.{◌≡◌}
use native.Mathlib.Omega.{arith}
use Rattle.meaning.specs.Limits.{most_classes}
use Rattle.words.proofs.Steps.{members_with}
use Rattle.words.specs.Rows.{class_words}
use Rattle.words.proofs.ClassSet.with.Goals as goal

pub returns : goal.returns
returns c =
    let a = c.args in
    let put = c.insert in
    let whole : length a.self.words ≡ class_words = search rules in
    record { words_value = put.ensures; contains_also = members_with a.self.words put.new.words a.c.0 most_classes (omega arith) put.ensures }
