use Rattle.extension.proofs.Columns.{mask_filled, mask_named, mask_none, mask_room}
use Rattle.satisfaction.proofs.Rows.{put_size}
use Rattle.extension.proofs.fill_mask.Goals as goal

pub mask_place-requires : goal.mask_place-requires
mask_place-requires c = search mask_named

pub put-requires : goal.put-requires
put-requires c = search (mask_room, mask_named)

pub shape_of-columns : goal.shape_of-columns
shape_of-columns c = search put_size

pub returns-then-is_name : goal.returns-then-is_name
returns-then-is_name c = search mask_filled

pub returns-else-is_name : goal.returns-else-is_name
returns-else-is_name c = search mask_none
