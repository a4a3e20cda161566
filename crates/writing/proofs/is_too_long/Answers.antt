use borrow.Author.Tests.{lt-ltb}
use mathlib.Core.Path.{◌∙◌}
use Rattle.meaning.specs.Limits.{most_records}
use Rattle.writing.proofs.Counting.{long_deep, long_many}
use Rattle.writing.proofs.is_too_long.Goals as goal

pub returns-then-place-gt-MOST_RECORDS : goal.returns-then-place-gt-MOST_RECORDS
returns-then-place-gt-MOST_RECORDS c =
    let h = c.if-place-gt-MOST_RECORDS.true in
    lt-ltb most_records c.place.result h ∙ long_many _ (c.place.ensures ∙ c.count_records.ensures c.args.depths.now) h

pub returns-else-place-gt-MOST_RECORDS : goal.returns-else-place-gt-MOST_RECORDS
returns-else-place-gt-MOST_RECORDS c = long_deep _ (c.place.ensures ∙ c.count_records.ensures c.args.depths.now) c.if-place-gt-MOST_RECORDS.false c.is_too_deep.ensures
