use Rattle.satisfaction.proofs.Rows.{put_size}
use Rattle.spans.proofs.Tables.{row_left, row_marked_lem}
use Rattle.spans.proofs.mark_row.Goals as goal

pub shape_of-columns : goal.shape_of-columns
shape_of-columns c = search put_size

pub returns-then-is_within : goal.returns-then-is_within
returns-then-is_within c = search row_marked_lem

pub returns-else-is_within : goal.returns-else-is_within
returns-else-is_within c = search row_left
